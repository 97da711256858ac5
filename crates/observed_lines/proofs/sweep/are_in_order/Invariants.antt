use Rattle.std.proofs.Common.{◌≡◌, drop}
use Rattle.observed_lines.specs.Sweeps.{come_from}
use Rattle.observed_lines.proofs.sweep.are_in_order.Given as goal

abbrev pub invariant-loop-source : goal.invariant-loop-source
invariant-loop-source l = come_from l.least (drop l.source-index l.causes) ≡ come_from 0 l.causes
