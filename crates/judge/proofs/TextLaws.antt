-- The lines of judgements, one task after the other.
use Rattle.std.proofs.Common.{◌≡◌, ◌∙◌, ◌+◌, ◌<◌, ◌==◌, ◌&&◌, not, ℕ, Bool, true, false}
use Rattle.std.proofs.Common.{cond, List, length, get_or, take, slice_get, Bor, Option}
use Rattle.std.proofs.Common.{Some, None, refl, ap, sym}
use Rattle.std.proofs.Math.Path.{fun_ext}
use Rattle.std.specs.Ordering.{nat_cmp}
use Rattle.std.specs.FinSet as set
use Rattle.std.specs.Option.{option_copied}
use Rattle.std.specs.Slice.{IsItemAt}
use Rattle.std.proofs.Math.Bool.{and_comm, or-false, or_comm}
use Rattle.std.proofs.lemmas.List.Folds.{list_any_more}
use Rattle.std.proofs.lemmas.Option.{slice_get_past, slice_get_read}
use Rattle.std.specs.Cmp.{nat_eq_equiv}
use Rattle.task_sheet.specs.Indexes.{indexes_of, with_index}
use Rattle.task_sheet.proofs.MembersIndexes.{indexes_of-insert}
use Rattle.judge.specs.Judgements.{does_meet}
use Rattle.judge.specs.JudgementLines.{missed_of}
use Rattle.judge.specs.declared.judging.JudgedTask.{JudgedTask}
use Rattle.judge.specs.declared.judging.Judgement.TheVariants.{Meets}

-- stands past the end of a list
abbrev pub no_judged : JudgedTask
no_judged = record { task = 0; judgement = Meets 0 }

-- the task misses its deadline
abbrev is_missed : ℕ → JudgedTask → Bool
is_missed k j = (j.task == k) && not (does_meet j.judgement)

pub missed_step : (m n : set.FinSet nat_cmp) (xs : List JudgedTask) (k : ℕ) (d : JudgedTask)
    (meets : Bool) → k < length xs → meets ≡ does_meet (get_or xs k d).judgement
    → indexes_of m ≡ missed_of (take k xs)
    → n ≡ cond meets m (set.insert m (get_or xs k d).task)
    → indexes_of n ≡ missed_of (take (k + 1) xs)
missed_step m n xs k d true lt is so next = ap indexes_of next ∙ so
    ∙ fun_ext (λ i. sym (list_any_more (is_missed i) xs k d lt
    ∙ rw (← is, and_comm ((get_or xs k d).task == i) false) (or-false (missed_of (take k xs) i))))
missed_step m n xs k d false lt is so next =
    ap indexes_of next ∙ indexes_of-insert m (get_or xs k d).task
    ∙ ap (λ H. with_index H (get_or xs k d).task) so
    ∙ fun_ext (λ i. rw (← nat_eq_equiv.symm (get_or xs k d).task i)
    (sym (list_any_more (is_missed i) xs k d lt
    ∙ rw (← is, and_comm ((get_or xs k d).task == i) true)
    (or_comm (missed_of (take k xs) i) ((get_or xs k d).task == i)))))

-- what is copied of an element that is lent
pub copied_at : (xs : List ℕ) (k : ℕ) (r : Option (Bor ℕ)) → IsItemAt xs k r
    → option_copied r ≡ slice_get xs k
copied_at xs k None is = sym (slice_get_past xs k is.3)
copied_at xs k (Some x) is = sym (slice_get_read xs (length xs) k x.now refl is.3.0 is.1)
