-- Where a list is cut at the first element that passes.
use Rattle.std.proofs.Common.{◌≡◌, ℕ, suc, ◌+◌, ◌<◌, Bool, true, false, List, [], ◌∷◌, length}
use Rattle.std.proofs.Common.{get_or, take, drop, refl, ◌∙◌, arith}
use Rattle.std.specs.List.{slice_split, position_or_len}
use Rattle.std.proofs.lemmas.List.Splits.{slice_split-cons_no, slice_split_first}
use Rattle.std.proofs.lemmas.List.Sums.{position_or_len_is}

pub cut_none : (p : ℕ → Bool) (xs : List ℕ) → ((k : ℕ) → k < length xs → p (get_or xs k 0) ≡ false)
    → slice_split p xs ≡ xs ∷ []
cut_none p [] h = refl
cut_none p (x ∷ xs) h =
    let here : p x ≡ false = h 0 (omega arith) in
    let rest : slice_split p xs ≡ xs ∷ [] = cut_none p xs (λ k lt. h (suc k) (omega arith)) in
    slice_split-cons_no p x xs here ∙ rw rest refl

pub cut_some : (p : ℕ → Bool) (xs : List ℕ) (i : ℕ) → i < length xs
    → ((k : ℕ) → k < i → p (get_or xs k 0) ≡ false) → p (get_or xs i 0) ≡ true
    → slice_split p xs ≡ take i xs ∷ slice_split p (drop (i + 1) xs)
cut_some p xs i lt below here =
    let place : position_or_len p xs ≡ i =
    position_or_len_is p xs i 0 (omega arith) below (λ _. here) in
    slice_split_first p xs 0 (omega (arith, place)) ∙ rw place refl
