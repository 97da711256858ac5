use Rattle.std.proofs.Common.{arith, ◌∙◌, ◌==◌}
use Rattle.std.proofs.lemmas.Bool.{ne_eqb}
use Rattle.chains.specs.Walks.{span_from}
use Rattle.chains.proofs.WalkLaws.{find_past}
use Rattle.chains.proofs.walks.longest_start.Goals as goal

pub loop-n-preserved : goal.loop-n-preserved
loop-n-preserved c = record {
  first = find_past (λ t. span_from c.args.steps.now t == c.longest_of-longest.result) c.loop-n.start
      c.in-Some.starts.period c.in-Some.starts.count c.loop-n.n _ (omega arith)
      (ne_eqb _ _ (λ same. c.if-span_from-longest.false (c.span_from.ensures ∙ same)))
      c.loop-n.invariant.first;
  room = omega arith;
}
