-- Lists that get something for one item after the other.
use Rattle.std.proofs.Common.{◌≡◌, ◌∙◌, ℕ, ◌+◌, ◌<◌, List, [], ◌∷◌, ◌++◌, Bool, ap, length, get_or, take}
use Rattle.std.specs.Prelude.{map}
use Rattle.std.specs.List.{filter}
use Rattle.std.proofs.lemmas.List.{map-append, take_more}
use Rattle.std.proofs.lemmas.List.Elements.{filter-append}

-- what comes of each
pub map_more : (f : ℕ → ℕ) (xs : List ℕ) (i : ℕ) → i < length xs
    → map f (take (i + 1) xs) ≡ map f (take i xs) ++ f (get_or xs i 0) ∷ []
map_more f xs i lt = ap (λ (l : List ℕ). map f l) (take_more xs i 0 lt)
    ∙ map-append f (take i xs) (get_or xs i 0 ∷ [])

-- those that meet a test
pub filter_more : (p : ℕ → Bool) (xs : List ℕ) (i : ℕ) → i < length xs
    → filter p (take (i + 1) xs) ≡ filter p (take i xs) ++ filter p (get_or xs i 0 ∷ [])
filter_more p xs i lt = ap (λ (l : List ℕ). filter p l) (take_more xs i 0 lt)
    ∙ filter-append p (take i xs) (get_or xs i 0 ∷ [])
