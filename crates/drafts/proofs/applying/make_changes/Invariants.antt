use Rattle.std.proofs.Common.{◌≡◌, drop}
use Rattle.drafts.specs.Applied.{all_changes}
use Rattle.drafts.specs.Rosters.{IsRoster}
use Rattle.drafts.proofs.applying.make_changes.Given as goal

abbrev pub invariant-loop-place : goal.invariant-loop-place
invariant-loop-place l = record {
  roster : IsRoster l.tasks.items;
  same : all_changes l.team l.fn.tasks.items l.changes.entries
      ≡ all_changes l.team l.tasks.items (drop l.place l.changes.entries);
}
