use Rattle.std.proofs.Common.{◌≡◌, ◌++◌, drop, string_bytes, true}
use Rattle.observed_lines.specs.Broken.{wait_lines}
use Rattle.observed_lines.specs.Sweeps.{Agree, come_from}
use Rattle.observed_lines.proofs.broken.push_waits.Given as goal

abbrev pub invariant-loop-job : goal.invariant-loop-job
invariant-loop-job l = record {
  whole : string_bytes l.text ++ wait_lines l.follows l.causes l.tolerance (drop l.job-index l.seen)
      ≡ string_bytes l.fn.text ++ wait_lines l.follows l.causes l.tolerance l.seen;
  known : Agree l.reached (l.live.items ++ l.rest) l.causes;
  all : l.in_order ≡ true → come_from 0 l.causes ≡ true;
  order : l.in_order ≡ true → come_from 0 l.rest ≡ true;
}
