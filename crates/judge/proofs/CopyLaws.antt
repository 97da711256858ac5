-- What a loop makes of each element of a list.
use Rattle.std.proofs.Common.{◌≡◌, ℕ, ◌+◌, ◌<◌, List, [], ◌∷◌, ◌++◌, length, map, get_or, drop}
use Rattle.std.proofs.Common.{append_assoc}
use Rattle.std.proofs.lemmas.List.{drop_more}

pub made_next : {X Y : Type 0} (f : X → Y) (xs : List X) (ys ys' : List Y) (i : ℕ) (d : X)
    → i < length xs → ys' ≡ ys ++ f (get_or xs i d) ∷ [] → ys ++ map f (drop i xs) ≡ map f xs
    → ys' ++ map f (drop (i + 1) xs) ≡ map f xs
made_next f xs ys ys' i d lt pushed so =
    rw (pushed, append_assoc ys (f (get_or xs i d) ∷ []) (map f (drop (i + 1) xs)))
    (rw (drop_more xs i d lt) at so)
