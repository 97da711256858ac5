use Rattle.std.proofs.Common.{◌≡◌, ◌≤◌}
use Rattle.drawn_jobs.specs.Changes.{changed_before}
use Rattle.drawn_jobs.proofs.changes.all_changed.Given as goal

abbrev pub invariant-loop-i : goal.invariant-loop-i
invariant-loop-i l = record {
  within : l.count ≤ l.i;
  counted : l.count ≡ changed_before l.fn.end l.fn.old l.fn.jobs l.i;
}
