-- What the parts of a chain's bound come to.
use Rattle.std.proofs.Common.{ℕ, ◌+◌, ◌-◌, ◌≡◌, refl, sym, ap, ◌∙◌, inl, inr, arith, List, [], ◌∷◌, map, nat_lt}
use Rattle.std.proofs.Common.{Some, sum_by, true, false}
use Rattle.std.specs.Prelude.{Bool, drop}
use Rattle.std.specs.List.{list_all}
use Rattle.std.proofs.lemmas.List.Sums.{sum_by-cons}
use Rattle.std.proofs.lemmas.Bool.{cases_Bool}
use Rattle.std.proofs.lemmas.Option.{none-some, same_Some}
use Rattle.task_sheet.proofs.Common.{Task, task_at}
use Rattle.ceiling_kernel.proofs.Common.{Node, level_in_order, node_in}
use Rattle.chains.specs.Gaps.{gap_of}
use Rattle.chains.specs.Handovers.{handover}
use Rattle.chains.specs.Bounds.{handed_within, written_within}
use Rattle.chains.specs.Walks.{bound_by, first_known, longest_start, next_by, span_from, steps_with, walk_from}
use Rattle.chains.specs.Parts.{after_of, afters_of, handed_of, span_parts, steps_of, wait_for, walk_parts}
use Rattle.chains.specs.Parts.{PartsComeTo, NoOrderMoves, bound_in, has_response, order_of, time_in}
use Rattle.chains.specs.declared.bounds.BoundPart.{BoundPart}
use Rattle.chains.specs.declared.bounds.Level.{Level}
use Rattle.chains.specs.declared.bounds.Writes.{Writes}
use Rattle.chains.specs.declared.bounds.Writes.TheVariants.{AtFinish, AtDeadline}
use Rattle.chains.proofs.RoundLaws.{next_late}
use Rattle.chains.proofs.LongestLaws.{longest_is_bound}

-- ---- how long they take
-- a part that is handed over takes as long as the handover
handed_time : (node : Node) (i c r : ℕ) → (handed_of node i c r).time ≡ handover node i c r
handed_time node i c r = by (nat_lt (level_in_order node c) (level_in_order node i)) refl
  where
    by : (b : Bool) → nat_lt (level_in_order node c) (level_in_order node i) ≡ b
        → (handed_of node i c r).time ≡ handover node i c r
    by true is = rw is refl
    by false is = rw is refl

-- so does the part behind a task's wait, where another task follows
pub after_time : (writes : Writes) (node : Node) (response : ℕ → ℕ) (i c : ℕ) (others : List ℕ)
    → (after_of writes node response i (c ∷ others)).time ≡ handed_within writes node i c (response i)
after_time AtFinish node response i c others = handed_time node i c (response i)
after_time AtDeadline node response i c others = refl

-- the last one takes as long as the task to write
pub last_time : (writes : Writes) (node : Node) (response : ℕ → ℕ) (i : ℕ)
    → (after_of writes node response i []).time ≡ written_within writes node i (response i)
last_time AtFinish node response i = refl
last_time AtDeadline node response i = refl

-- ---- what they come to
module _ (writes : Writes) (node : Node) (response : ℕ → ℕ) where
  -- the parts of a walk reach to its end
  walk_sum : (offsets tasks : List ℕ) (t : ℕ)
      → t + sum_by (λ p. p.time) (walk_parts (steps_of writes offsets node response tasks)
      (afters_of writes node response tasks) t)
      ≡ walk_from (steps_of writes offsets node response tasks) t
  walk_sum offsets [] t = omega arith
  walk_sum offsets (i ∷ tasks) t =
      let p = after_of writes node response i tasks in
      let u : ℕ = next_by (first_known offsets) (gap_of (task_at node.tasks i)) t in
      let rest = walk_parts (steps_of writes (drop 1 offsets) node response tasks)
      (afters_of writes node response tasks) (u + p.time) in
      omega (
        arith,
        next_late (first_known offsets) (gap_of (task_at node.tasks i)) t,
        sum_by-cons (λ (q : BoundPart). q.time) (wait_for p.task (u - t)) (p ∷ rest),
        sum_by-cons (λ (q : BoundPart). q.time) p rest,
        walk_sum (drop 1 offsets) tasks (u + p.time),
      )

  -- those of a span come to it
  span_sum : (offsets tasks : List ℕ) (t : ℕ)
      → sum_by (λ p. p.time) (span_parts (steps_of writes offsets node response tasks)
      (afters_of writes node response tasks) t)
      ≡ span_from (steps_of writes offsets node response tasks) t
  span_sum offsets [] t = refl
  span_sum offsets (i ∷ tasks) t =
      let p = after_of writes node response i tasks in
      let gap : ℕ = gap_of (task_at node.tasks i) in
      let rest = walk_parts (steps_of writes (drop 1 offsets) node response tasks)
      (afters_of writes node response tasks) (t + gap + p.time) in
      omega (
        arith,
        sum_by-cons (λ (q : BoundPart). q.time) (wait_for p.task gap) (p ∷ rest),
        sum_by-cons (λ (q : BoundPart). q.time) p rest,
        walk_sum (drop 1 offsets) tasks (t + gap + p.time),
      )

pub come_to_law : (writes : Writes) (offsets : List ℕ) (node : Node) (response : ℕ → ℕ) (tasks : List ℕ)
    → PartsComeTo writes offsets node response tasks
come_to_law writes offsets node response tasks bound is =
    span_sum writes node response offsets tasks
    (longest_start (steps_of writes offsets node response tasks))
    ∙ longest_is_bound (steps_of writes offsets node response tasks) bound is

-- ---- at deadlines
-- the parts behind the waits are the same in each order
same_afters : (U : List Task) (levels others : List Level) (tasks : List ℕ)
    → afters_of AtDeadline (node_in U (order_of levels)) (time_in levels) tasks
    ≡ afters_of AtDeadline (node_in U (order_of others)) (time_in others) tasks
same_afters U levels others [] = refl
same_afters U levels others (i ∷ tasks) =
    ap (λ (ps : List BoundPart). after_of AtDeadline (node_in U (order_of levels)) (time_in levels) i tasks ∷ ps)
    (same_afters U levels others tasks)

-- a bound is the longest span
bound_is : (offsets : List ℕ) (U : List Task) (levels : List Level) (tasks : List ℕ) (bound : ℕ)
    → bound_in AtDeadline offsets U levels tasks ≡ Some bound
    → bound_by (steps_of AtDeadline offsets (node_in U (order_of levels)) (time_in levels) tasks)
    ≡ Some bound
bound_is offsets U levels tasks bound is =
    elim (cases_Bool (list_all (has_response levels) tasks)) [
      | inl all ↦ rw all at is
      | inr not ↦ absurd (none-some bound (rw not at is))
    ]

pub no_order_law : NoOrderMoves
no_order_law offsets U levels others tasks one other is is' =
    same_Some one other
    (sym (bound_is offsets U levels tasks one is)
    ∙ (ap (λ (ps : List BoundPart). bound_by (steps_with U offsets (map (λ p. p.time) ps) tasks))
    (same_afters U levels others tasks)
    ∙ bound_is offsets U others tasks other is'))
