use Rattle.std.proofs.Common.{◌<◌, ◌≤◌, ◌-◌, Ok, true, false}
use Rattle.limits.proofs.bisection.edge_of.Given as goal

abbrev pub invariant-loop-failing : goal.invariant-loop-failing
invariant-loop-failing g l = record {
  from : l.known ≤ l.passing;
  apart : l.passing < l.failing;
  within : l.failing ≤ l.end;
  holds : l.known < l.passing → goal.F-post g l.holds l.passing (Ok true);
  fails : l.failing < l.end → goal.F-post g l.holds l.failing (Ok false);
  steps : 1 ≤ l.step;
}

abbrev pub decreases-loop-failing : goal.decreases-loop-failing
decreases-loop-failing g l = l.failing - l.passing
