use Rattle.std.proofs.Common.{◌+◌, ap, subst, arith}
use Rattle.chain_worst.specs.Aims.{IsAim}
use Rattle.chain_worst.proofs.AimLaws.{so_far_all, so_far_next, so_far_soon, so_far_walked}
use Rattle.chain_worst.proofs.aims.aims_of.Goals as goal

pub returns-in_default-split_first : goal.returns-in_default-split_first
returns-in_default-split_first c =
    so_far_all (rw c.in-Some.ensures.cases.0 at c.loop-step.invariant)
    c.in_default-split_first.ensures.cases

pub overflow_cast-arrival : goal.overflow_cast-arrival
overflow_cast-arrival c = omega (
  arith,
  c.aim_time-arrival.ensures.arrival,
  so_far_soon (rw (c.in-Some.ensures.cases.0, c.in-Some-split_first.ensures.cases.0) at c.loop-step.invariant),
)

pub aim_of-requires-clause-arrival : goal.aim_of-requires-clause-arrival
aim_of-requires-clause-arrival c = omega (
  arith,
  c.aim_time-arrival.ensures.arrival,
  so_far_soon (rw (c.in-Some.ensures.cases.0, c.in-Some-split_first.ensures.cases.0) at c.loop-step.invariant),
)

pub overflow_add-time : goal.overflow_add-time
overflow_add-time c = omega (
  arith,
  c.aim_time-arrival.ensures.arrival,
  so_far_soon (rw (c.in-Some.ensures.cases.0, c.in-Some-split_first.ensures.cases.0) at c.loop-step.invariant),
)

pub loop-step-preserved : goal.loop-step-preserved
loop-step-preserved c =
    so_far_next
    (rw (c.in-Some.ensures.cases.0, c.in-Some-split_first.ensures.cases.0) at c.loop-step.invariant)
    (subst (λ a. IsAim c.args.set.now c.args.levels.now c.in-Some-split_first.task.now a c.aim_of.result)
    c.aim_time-arrival.ensures.arrival c.aim_of.ensures)
    c.in_ok-push.ensures.items
    (ap (λ a. a + c.in-Some.step.now.delay) c.aim_time-arrival.ensures.arrival)

pub returns : goal.returns
returns c = so_far_walked c.loop-step.invariant c.in_default.ensures.cases
