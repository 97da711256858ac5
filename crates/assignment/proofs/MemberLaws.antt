-- Members by the lists that they were taken from.
use Rattle.std.proofs.Common.{◌≡◌, ◌∙◌, ℕ, ◌+◌, ◌<◌, ◌||◌, ◌==◌, List}
use Rattle.std.proofs.Common.{[], ◌∷◌, ◌++◌, length, get_or, take, sym, ap}
use Rattle.std.proofs.Math.Bool.{or-false, or_comm}
use Rattle.std.proofs.Math.Path.{fun_ext}
use Rattle.std.specs.Cmp.{nat_eq_equiv}
use Rattle.std.specs.FinSet as set
use Rattle.std.specs.Ordering.{nat_cmp}
use Rattle.std.proofs.lemmas.List.{take_more, map-append}
use Rattle.std.proofs.lemmas.List.Folds.{list_any-append}
use Rattle.task_sheet.specs.Indexes.{among, indexes_of, with_index}
use Rattle.task_sheet.proofs.MembersIndexes.{indexes_of-insert}
use Rattle.assignment.specs.Places.{PlaceData}
use Rattle.assignment.specs.Placings.{tasks_of_places}

among-push : (xs : List ℕ) (i : ℕ) → among (xs ++ i ∷ []) ≡ with_index (among xs) i
among-push xs i = fun_ext (λ k. list_any-append (λ x. x == k) xs (i ∷ [])
    ∙ ap (λ b. among xs k || b) (or-false (i == k)) ∙ or_comm (among xs k) (i == k)
    ∙ ap (λ b. b || among xs k) (nat_eq_equiv.symm i k))

member_more : (m n : set.FinSet nat_cmp) (xs : List ℕ) (i : ℕ) → indexes_of m ≡ among xs
    → n ≡ set.insert m i → indexes_of n ≡ among (xs ++ i ∷ [])
member_more m n xs i so is = ap indexes_of is ∙ indexes_of-insert m i
    ∙ ap (λ H. with_index H i) so ∙ sym (among-push xs i)

-- one member more, of a list
pub members_step : (m n : set.FinSet nat_cmp) (xs : List ℕ) (k : ℕ) → k < length xs → indexes_of m
    ≡ among (take k xs) → n ≡ set.insert m (get_or xs k 0) → indexes_of n ≡ among (take (k + 1) xs)
members_step m n xs k lt so is = member_more m n (take k xs) (get_or xs k 0) so is
    ∙ ap among (sym (take_more xs k 0 lt))

-- and of places
pub places_step : (m n : set.FinSet nat_cmp) (places : List PlaceData) (k : ℕ) (p : PlaceData)
    (i : ℕ) → k < length places → p ≡ get_or places k p → p.task ≡ i
    → indexes_of m ≡ among (tasks_of_places (take k places)) → n ≡ set.insert m i
    → indexes_of n ≡ among (tasks_of_places (take (k + 1) places))
places_step m n places k p i lt at same so is =
    let front = tasks_of_places (take k places) in
    let more : tasks_of_places (take (k + 1) places) ≡ front ++ i ∷ [] =
    ap tasks_of_places (take_more places k p lt)
    ∙ map-append (λ (q : PlaceData). q.task) (take k places) (get_or places k p ∷ [])
    ∙ ap (λ j. front ++ j ∷ []) (ap (λ (q : PlaceData). q.task) (sym at) ∙ same) in
    member_more m n front i so is ∙ ap among (sym more)
