-- What a list keeps of its elements that pass a test.
use Rattle.std.proofs.Common.{◌≡◌, ℕ, zero, suc, ◌<◌, ◌≤◌, inl, inr, refl, arith, Bool, true, false}
use Rattle.std.proofs.Common.{List, [], ◌∷◌, length, get_or}
use Rattle.std.specs.List.{count_by, filter}
use Rattle.std.proofs.lemmas.Bool.{cases_Bool}
use Rattle.task_sheet.specs.Demand.{greatest_of}

-- one that passes is at most the greatest
pub kept_most : {X : Type 0} (g : X → ℕ) (p : X → Bool) (xs : List X) (i : ℕ) (d : X)
    → i < length xs → p (get_or xs i d) ≡ true → g (get_or xs i d) ≤ greatest_of g (filter p xs)
kept_most g p [] i d lt is = absurd (omega (arith, lt))
kept_most g p (x ∷ xs) zero d lt is = rw is (omega arith)
kept_most g p (x ∷ xs) (suc i) d lt is =
    let rest = kept_most g p xs i d (omega (arith, lt)) is in
    elim (cases_Bool (p x)) [ inl so ↦ rw so (omega (arith, rest)) | inr not_so ↦ rw not_so rest ]

-- where one passes, one is kept
pub kept_one : {X : Type 0} (p : X → Bool) (xs : List X) (i : ℕ) (d : X) → i < length xs
    → p (get_or xs i d) ≡ true → 1 ≤ length (filter p xs)
kept_one p [] i d lt is = absurd (omega (arith, lt))
kept_one p (x ∷ xs) zero d lt is = rw is (omega arith)
kept_one p (x ∷ xs) (suc i) d lt is =
    let rest : 1 ≤ length (filter p xs) = kept_one p xs i d (omega (arith, lt)) is in
    elim (cases_Bool (p x)) [ inl so ↦ rw so (omega arith) | inr not_so ↦ rw not_so rest ]

-- where two do, two are
pub kept_two : {X : Type 0} (p : X → Bool) (xs : List X) (i j : ℕ) (d : X) → i < j → j < length xs
    → p (get_or xs i d) ≡ true → p (get_or xs j d) ≡ true → 2 ≤ length (filter p xs)
kept_two p [] i j d less lt is also = absurd (omega (arith, lt))
kept_two p (x ∷ xs) i zero d less lt is also = absurd (omega (arith, less))
kept_two p (x ∷ xs) zero (suc j) d less lt is also =
    let rest : 1 ≤ length (filter p xs) = kept_one p xs j d (omega (arith, lt)) also in
    rw is (omega (arith, rest))
kept_two p (x ∷ xs) (suc i) (suc j) d less lt is also =
    let rest = kept_two p xs i j d (omega (arith, less)) (omega (arith, lt)) is also in
    elim (cases_Bool (p x)) [ inl so ↦ rw so (omega (arith, rest)) | inr not_so ↦ rw not_so rest ]

-- where none passes, none counts
pub none_counts : {X : Type 0} (p : X → Bool) (xs : List X) (d : X)
    → ((i : ℕ) → i < length xs → p (get_or xs i d) ≡ false) → count_by p xs ≡ 0
none_counts p [] d none = refl
none_counts p (x ∷ xs) d none =
    rw (none 0 (omega arith)) (none_counts p xs d (λ i lt. none (suc i) (omega (arith, lt))))
