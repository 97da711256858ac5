use Rattle.std.proofs.Common.{arith}
use Rattle.task_sheet.proofs.Below.{ord_max-is}
use Rattle.chains.specs.Walks.{span_from}
use Rattle.chains.proofs.WalkLaws.{greatest_past}
use Rattle.chains.proofs.walks.longest_of.Goals as goal

pub loop-n-preserved : goal.loop-n-preserved
loop-n-preserved c = record {
  greatest = greatest_past (λ t. span_from c.args.steps.now t) c.loop-n.longest c.max-longest.result c.loop-n.start
      c.args.starts.period c.args.starts.count c.loop-n.n _ (omega arith)
      (omega (arith, c.max-longest.ensures, ord_max-is, c.span_from.ensures)) c.loop-n.invariant.greatest;
  room = omega arith;
}
