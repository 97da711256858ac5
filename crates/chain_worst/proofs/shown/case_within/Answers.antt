use Rattle.std.proofs.Common.{◌+◌, arith}
use Rattle.chain_worst.proofs.AimLaws.{end_late}
use Rattle.chain_worst.proofs.PlanLaws.{responses_of}
use Rattle.chain_worst.proofs.shown.case_within.Goals as goal

pub overflow_cast-begin : goal.overflow_cast-begin
overflow_cast-begin c = omega (
  arith,
  c.in-Some.ensures.0,
  c.in-Some.ensures.1,
  end_late c.deref-2.result.now (c.early_of-begin.result + 1),
)

pub plan_of-requires-clause-responses : goal.plan_of-requires-clause-responses
plan_of-requires-clause-responses c =
    responses_of c.args.writes c.args.offsets.now c.args.set.now c.args.levels.now c.args.tasks.now
    c.args.bound c.requires.bound
