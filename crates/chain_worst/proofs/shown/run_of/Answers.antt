use Rattle.std.proofs.Common.{ap, refl}
use Rattle.chain_runs.specs.declared.outcome.ChainOutcome.{ChainOutcome}
use Rattle.chain_worst.proofs.shown.run_of.Goals as goal

pub returns : goal.returns
returns c = record {
  ran = rw (c.in-Ok.ensures.ok.0, c.deref.ensures.value, c.in_ok-order.ensures) at c.in-Ok-run_cut.ensures.run;
  bound = refl;
  seen = rw (c.deref-2.ensures.value, c.in_ok-outputs.ensures) at
      (ap (λ (o : ChainOutcome). o.age) c.outcome_of-seen.ensures);
}
