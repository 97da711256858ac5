-- A loop that takes item after item into a state.
use Rattle.std.proofs.Common.{◌≡◌, ◌∙◌, ℕ, ◌+◌, ◌<◌, List, ◌∷◌, length, get_or, drop, sym, ap}
use Rattle.std.proofs.lemmas.List.{at_drop_more}

-- one item more, in which what is left comes to the same
pub fold_more : {S X R : Type 0} (go : S → List X → R) (step : S → X → S)
    → ((s : S) (x : X) (xs : List X) → go s (x ∷ xs) ≡ go (step s x) xs)
    → (xs : List X) (i : ℕ) (x : X) (s t : S) → i < length xs → x ≡ get_or xs i x → t ≡ step s x
    → go t (drop (i + 1) xs) ≡ go s (drop i xs)
fold_more {S = S} {X = X} go step more xs i x s t lt is next =
    let rest = drop (i + 1) xs in
    ap (λ (u : S). go u rest) next ∙ sym (more s x rest)
    ∙ ap (λ (y : X). go s (y ∷ rest)) is ∙ sym (at_drop_more (go s) xs i x lt)
