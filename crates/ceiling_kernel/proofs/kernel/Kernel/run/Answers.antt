use Rattle.std.proofs.Common.{◌≡◌, refl, sym, ap, ◌∙◌, subst, arith, reverse}
use Rattle.std.proofs.lemmas.Result.{err_from_is_err_and}
use Rattle.ceiling_kernel.proofs.Common.{picked, slices_before, jobs_of, AreTurns, has_come}
use Rattle.ceiling_kernel.proofs.Common.{records_from, AreFinishes}
use Rattle.ceiling_kernel.proofs.EndLaws.{ready_fits, runnable_from, no_overrun_then, each_granted}
use Rattle.ceiling_kernel.proofs.EndLaws.{bounded_trace, tighter_trace, stop_without}
use Rattle.ceiling_kernel.proofs.kernel.Kernel.run.Goals.{In_ok-jobs}
use Rattle.ceiling_kernel.proofs.kernel.Kernel.run.Goals as goal

pub loop-simulation-init : goal.loop-simulation-init
loop-simulation-init c =
    let accepted = rw c.set.ensures.tasks at c.in_ok-tasks.ensures in
    let node = c.args.self.now in
    let rs = c.args.releases.now in
    let turns = subst (λ x. AreTurns (jobs_of node.tasks rs) x) (sym c.deref-2.ensures.value)
    (c.in_ok-turns.ensures node.tasks) in
    let runnable = runnable_from node rs c.deref-2.result.now c.args.until c.set.ensures.node
    accepted.0 turns in
    let start = c.in_ok-simulation.ensures rs c.deref-2.result.now runnable refl in
    record { running = start.0; bounded = omega (arith, start.1) }

pub step-requires-clause-runnable : goal.step-requires-clause-runnable
step-requires-clause-runnable c =
    let node = c.args.self.now in
    let rs = c.args.releases.now in
    let accepted = rw c.set.ensures.tasks at c.in_ok-tasks.ensures in
    let turns = subst (λ x. AreTurns (jobs_of node.tasks rs) x) (sym c.deref-2.ensures.value)
    (c.in_ok-turns.ensures node.tasks) in
    runnable_from node rs c.deref-2.result.now c.args.until c.set.ensures.node accepted.0 turns

pub turns_of-requires : goal.turns_of-requires
turns_of-requires c =
    let accepted = rw c.set.ensures.tasks at c.in_ok-tasks.ensures in
    ready_fits c.args.self.now c.args.releases.now c.args.until c.ranges.until.fits accepted.0

-- the run has come to its end, and the records are those of the tick rule
module _ (c : goal.In_ok-jobs) where
  ended : c.loop-simulation.simulation.now ≡ c.args.until
  ended = omega (arith, c.loop-simulation-test.false, c.loop-simulation.invariant.bounded)

  recorded : c.in_ok-jobs.jobs.items ≡ records_from c.args.self.now
      (jobs_of c.args.self.now.tasks c.args.releases.now) c.args.until 0 c.args.releases.now
  recorded =
      let node = c.args.self.now in
      let rs = c.args.releases.now in
      let finishes = subst (λ x. AreFinishes node rs c.loop-simulation.simulation.now x)
      (sym c.deref-3.ensures.value) c.loop-simulation.invariant.running.finishes in
      c.in_ok-jobs.ensures node c.loop-simulation.simulation.now finishes ∙ ap
      (λ t. records_from node (jobs_of node.tasks rs) t 0 rs) ended

pub returns-clause-trace : goal.returns-clause-trace
returns-clause-trace c =
    let node = c.args.self.now in
    let rs = c.args.releases.now in
    let s = c.loop-simulation.simulation in
    let running = c.loop-simulation.invariant.running in
    let accepted = rw c.set.ensures.tasks at c.in_ok-tasks.ensures in
    let ran = (goal.at.returns-clause-trace c).In_ok-jobs in (
      accepted.0,
      no_overrun_then node rs c.args.until s.now (has_come c.deref-2.result.now s.next)
          s.slots.items accepted.0 running.kept c.loop-simulation-test.false,
      record {
        slices = c.in_ok-slices.ensures ∙ (ap (λ x. reverse x)
            running.slices ∙ ap (λ t. reverse (slices_before (picked node (jobs_of node.tasks rs))
            t)) (ended ran));
        jobs = recorded ran;
      },
    )

pub returns-clause-granted : goal.returns-clause-granted
returns-clause-granted c =
    let node = c.args.self.now in
    let rs = c.args.releases.now in
    let s = c.loop-simulation.simulation in
    let accepted = rw c.set.ensures.tasks at c.in_ok-tasks.ensures in
    let none = no_overrun_then node rs c.args.until s.now (has_come c.deref-2.result.now s.next)
    s.slots.items accepted.0 c.loop-simulation.invariant.running.kept
    c.loop-simulation-test.false in
    each_granted node rs c.args.until c.set.ensures.node accepted.0 none

pub returns-clause-bounds : goal.returns-clause-bounds
returns-clause-bounds c =
    let accepted = rw c.set.ensures.tasks at c.in_ok-tasks.ensures in
    bounded_trace c.args.self.now c.args.releases.now c.args.until (record {
      slices =
          c.in_ok-slices.slices;
      jobs = c.in_ok-jobs.jobs;
    }) c.set.ensures.node accepted.0
    (recorded (goal.at.returns-clause-bounds c).In_ok-jobs)

pub returns-clause-tighter : goal.returns-clause-tighter
returns-clause-tighter c =
    let accepted = rw c.set.ensures.tasks at c.in_ok-tasks.ensures in
    tighter_trace c.args.self.now c.args.releases.now c.args.until (record {
      slices =
          c.in_ok-slices.slices;
      jobs = c.in_ok-jobs.jobs;
    }) c.set.ensures.node accepted.0
    (recorded (goal.at.returns-clause-tighter c).In_ok-jobs)

pub returns-in_err-step-clause-no_overrun : goal.returns-in_err-step-clause-no_overrun
returns-in_err-step-clause-no_overrun c = λ order.
    let accepted = rw c.set.ensures.tasks at c.in_ok-tasks.ensures in
    let p = err_from_is_err_and c.from_residual-in_err-step.result
    c.from_residual-in_err-step.ensures.1 in
    rw (p.1, p.2) (stop_without c.args.self.now c.args.releases.now c.args.until
    c.in_err-step.field-0.0 c.set.ensures.node accepted.0 c.in_err-step.ensures.err order)
