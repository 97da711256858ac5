use Rattle.std.proofs.Common.{◌≡◌, drop}
use Rattle.chain_worst.specs.Aims.{end_of}
use Rattle.chain_worst.proofs.aims.end_of.Given as goal

abbrev pub invariant-loop-step : goal.invariant-loop-step
invariant-loop-step l = end_of (drop l.step-index l.steps) l.end ≡ end_of l.steps l.time
