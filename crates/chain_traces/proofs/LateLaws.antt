-- The bound of a chain whose tasks write at their deadlines leaves room for how late their jobs may be.
use Rattle.std.proofs.Common.{ℕ, ◌+◌, ◌*◌, ◌^◌, ◌≤◌, ◌≡◌, inl, inr, ap, arith, List, [], ◌∷◌, length, Option, Some, None}
use Rattle.std.proofs.Common.{cond, true, false}
use Rattle.std.specs.Prelude.{Bool}
use Rattle.std.specs.List.{list_all}
use Rattle.std.proofs.lemmas.Bool.{cases_lt}
use Rattle.std.proofs.lemmas.List.{get_or_past}
use Rattle.std.proofs.lemmas.Option.{same_Some}
use Rattle.task_sheet.proofs.Common.{Task, IsValidSheet, no_task, task_at, IsTaskSet}
use Rattle.ceiling_kernel.proofs.Common.{node_in}
use Rattle.chains.specs.Bounds.{bound_of}
use Rattle.chains.specs.Gaps.{gap_of}
use Rattle.chains.specs.Parts.{bound_in, has_response, order_of, steps_of, time_in}
use Rattle.chains.specs.Walks.{bound_by}
use Rattle.chains.specs.declared.bounds.Level.{Level}
use Rattle.chains.specs.declared.bounds.Writes.TheVariants.{AtDeadline}
use Rattle.chains.proofs.OffsetLaws.{offsets_law}

-- a task's period and its deadline are short
task_short : (U : List Task) → IsTaskSet U → (i : ℕ) → gap_of (task_at U i) + (task_at U i).deadline ≤ 200000000
task_short U set i = elim (cases_lt i (length U)) [
  | inl lt ↦
      let v : IsValidSheet (task_at U i) = set.valid i no_task lt in
      omega (arith, v.period_to, v.deadline_to)
  | inr past ↦
      let none : task_at U i ≡ no_task = get_or_past U i no_task past in
      omega (arith, ap (λ (t : Task). t.period) none, ap (λ (t : Task). t.deadline) none)
]

sum_short : (U : List Task) → IsTaskSet U → (order : List ℕ) (response : ℕ → ℕ) (i : ℕ) (others : List ℕ)
    → bound_of AtDeadline (node_in U order) response i others ≤ length (i ∷ others) * 200000000
sum_short U set order response i [] = omega (arith, task_short U set i)
sum_short U set order response i (c ∷ others) =
    omega (arith, task_short U set i, sum_short U set order response c others)

told : (b : Bool) (o : Option ℕ) (bound : ℕ) → cond b o None ≡ Some bound → o ≡ Some bound
told true o bound is = is
told false o bound is = absurd cc

pub bound_short : (offsets : List ℕ) (U : List Task) (levels : List Level) (tasks : List ℕ) (bound : ℕ) → IsTaskSet U
    → bound_in AtDeadline offsets U levels tasks ≡ Some bound → bound ≤ length tasks * 2 ^ 64
bound_short offsets U levels [] bound set is =
    let none : 0 ≡ bound = same_Some 0 bound (told (list_all (has_response levels) []) _ bound is) in
    omega (arith, none)
bound_short offsets U levels (i ∷ others) bound set is =
    let by : bound_by (steps_of AtDeadline offsets (node_in U (order_of levels)) (time_in levels) (i ∷ others)) ≡ Some bound =
    told (list_all (has_response levels) (i ∷ others)) _ bound is in
    omega (
      arith,
      offsets_law AtDeadline offsets (node_in U (order_of levels)) (time_in levels) i others bound by,
      sum_short U set (order_of levels) (time_in levels) i others,
    )
