-- Orders that decide, made from the lowest task up.
use Rattle.std.proofs.Common.{◌≡◌, ◌∙◌, ℕ, false, List, [], ◌∷◌, ◌++◌, sym, ap, subst}
use Rattle.std.specs.Ordering.{nat_cmp}
use Rattle.std.specs.FinSet as members
use Rattle.task_sheet.proofs.Common.{Task, Indexes, indexes_of, without_index, IsPart, all_of}
use Rattle.task_sheet.proofs.Common.{IsOrderOf, left_after}
use Rattle.task_sheet.proofs.IndexLaws.{IsOrderOf-cons}
use Rattle.task_sheet.proofs.LevelLaws.{left_after-part, left_after-push}
use Rattle.task_sheet.proofs.MembersIndexes.{indexes_of-remove}
use Rattle.worst_lines.specs.Deciding.{AllNext, IsDeciding, IsNext}

next_push : (U : List Task) (L : Indexes) (order : List ℕ) (i : ℕ) → AllNext U L order
    → IsNext U (left_after L order) i → AllNext U L (order ++ i ∷ [])
next_push U L [] i all next = (next, tt)
next_push U L (j ∷ order) i all next = (all.0, next_push U (without_index L j) order i all.1 next)

next_order : (U : List Task) (L : Indexes) (order : List ℕ) → AllNext U L order
    → ((k : ℕ) → left_after L order k ≡ false) → IsOrderOf L order
next_order U L [] all none = λ k. rw (none k)
next_order U L (i ∷ above) all none =
    IsOrderOf-cons L i above all.0.member (next_order U (without_index L i) above all.1 none)

module _ (U : List Task) where
  -- these are placed, and L is left
  pub record IsSofar (L : Indexes) (order : List ℕ) : Type 0 where
    pub next : AllNext U (all_of U) order
    pub rest : L ≡ left_after (all_of U) order

  pub sofar_part : (L : Indexes) (order : List ℕ) → IsSofar L order → IsPart L (all_of U)
  sofar_part L order so =
      subst (λ X. IsPart X (all_of U)) (sym so.rest) (left_after-part (all_of U) order)

  pub sofar_push : (left : members.FinSet nat_cmp) (order : List ℕ) (i : ℕ)
      → IsSofar (indexes_of left) order → IsNext U (indexes_of left) i
      → IsSofar (indexes_of (members.remove left i)) (order ++ i ∷ [])
  sofar_push left order i so next = record {
    next = next_push U (all_of U) order i so.next (subst (λ X. IsNext U X i) so.rest next);
    rest = indexes_of-remove left i ∙ ap (λ X. without_index X i) so.rest
        ∙ sym (left_after-push (all_of U) order i);
  }

  pub sofar_end : (L : Indexes) (order : List ℕ) → IsSofar L order → ((k : ℕ) → L k ≡ false)
      → IsDeciding U order
  sofar_end L order so none = record {
    each_once = next_order U (all_of U) order so.next
        (λ k. ap (λ (X : Indexes). X k) (sym so.rest) ∙ none k);
    next = so.next;
  }
