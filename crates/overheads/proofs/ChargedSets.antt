-- A set with interrupts on the account of its first task is a set, by the same ranks.
use Rattle.std.proofs.Common.{◌≡◌, ◌<◌, None, List, [], ◌∷◌, length, get_or, refl, ◌∙◌, arith}
use Rattle.std.specs.List.{All, insert, remove}
use Rattle.std.specs.List.Sorted.{IsStrictlySortedBy}
use Rattle.std.proofs.lemmas.List.Elements.{All-from_recursion, recursion_from_All}
use Rattle.task_sheet.proofs.Common.{Task, AreInterrupts, IsValidSheet, rank_cmp, IsByRank}
use Rattle.task_sheet.proofs.Common.{same_name, AreDistinct, IsTaskSet, sheets_fault}
use Rattle.task_sheet.specs.Sheet.{interrupted}
use Rattle.task_sheet.specs.declared.node.Interrupt.{Interrupt}
use Rattle.task_sheet.proofs.SetLaws.{IsByRank-is, no_fault}
use Rattle.overheads.specs.Padding.{charged}
use Rattle.overheads.proofs.PaddedTasks.{valid-other}

pub count-charged : (U : List Task) (xs : List Interrupt) → length (charged xs U) ≡ length U
count-charged U [] = refl
count-charged [] (x ∷ xs) = refl
count-charged (t ∷ ts) (x ∷ xs) = refl

kept-charged : (U : List Task) (xs : List Interrupt) → IsTaskSet U
    → IsStrictlySortedBy rank_cmp (charged xs U) × AreDistinct same_name (charged xs U)
unfolding IsStrictlySortedBy
kept-charged U [] set = (set.ranked, set.distinct)
kept-charged [] (x ∷ xs) set = (set.ranked, set.distinct)
kept-charged (t ∷ ts) (x ∷ xs) set = (set.ranked, set.distinct)

valid-charged : (U : List Task) (xs : List Interrupt) → AreInterrupts xs → All IsValidSheet U
    → All IsValidSheet (charged xs U)
valid-charged U [] limits valid = valid
valid-charged [] (x ∷ xs) limits valid = valid
valid-charged (t ∷ ts) (x ∷ xs) limits valid =
    let each = recursion_from_All IsValidSheet (t ∷ ts) valid in
    All-from_recursion IsValidSheet (charged (x ∷ xs) (t ∷ ts))
    (valid-other t t.node (x ∷ xs) each.0 each.0.overheads limits, each.1)

pub set-charged : (U : List Task) (xs : List Interrupt) → IsTaskSet U → AreInterrupts xs
    → IsTaskSet (charged xs U)
set-charged U xs set limits = record {
  valid = valid-charged U xs limits set.valid;
  ranked = (kept-charged U xs set).0;
  distinct = (kept-charged U xs set).1;
  few = omega (arith, set.few, count-charged U xs);
}

pub IsByRank-charged : (U V : List Task) (xs : List Interrupt) → IsTaskSet U
    → IsByRank (charged xs U) V → V ≡ charged xs U
IsByRank-charged U V xs set by_rank =
    IsByRank-is (charged xs U) V (kept-charged U xs set).0 by_rank

-- the sheets are no fault
pub no_fault-charged : (U : List Task) (xs : List Interrupt) → IsTaskSet U
    → sheets_fault (charged xs U) ≡ None
no_fault-charged U xs set = no_fault (charged xs U) (kept-charged U xs set).1
    (omega (arith, set.few, count-charged U xs))

-- the first task, taken out and put back with them
pub charged-first : (U V : List Task) (xs ys : List Interrupt) (t y : Task) → 0 < length xs
    → 0 < length U → ys ≡ xs → t ≡ get_or U 0 t → y ≡ interrupted t ys → V ≡ insert (remove U 0) 0 y
    → V ≡ charged xs U
charged-first U V [] ys t y some any same is holds put = absurd (omega (arith, some))
charged-first [] V (x ∷ xs) ys t y some any same is holds put = absurd (omega (arith, any))
charged-first (u ∷ us) V (x ∷ xs) ys t y some any same is holds put =
    put ∙ rw (holds, same, is) refl
