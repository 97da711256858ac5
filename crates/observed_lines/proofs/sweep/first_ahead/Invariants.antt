use Rattle.std.proofs.Common.{◌≡◌, drop, true}
use Rattle.std.specs.List.{find}
use Rattle.observed_lines.specs.Causes.{delays}
use Rattle.observed_lines.specs.Sweeps.{come_from}
use Rattle.observed_lines.proofs.sweep.first_ahead.Given as goal

abbrev pub invariant-loop-source : goal.invariant-loop-source
invariant-loop-source l = record {
  order : l.in_order ≡ true → come_from 0 (drop l.source-index l.causes) ≡ true;
  first : find (λ c. delays l.asked.blocks l.asked.least c l.seen) (drop l.source-index l.causes) ≡ find (λ c. delays l.asked.blocks l.asked.least c l.seen) l.causes;
}
