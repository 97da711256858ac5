use Rattle.std.proofs.Common.{◌≡◌, drop}
use Rattle.drafts.specs.Applied.{interrupts_after}
use Rattle.drafts.specs.Rosters.{AreWithin}
use Rattle.drafts.proofs.interrupts.make_all_said.Given as goal

abbrev pub invariant-loop-place : goal.invariant-loop-place
invariant-loop-place l = record {
  within : AreWithin l.interrupts.items;
  same : interrupts_after l.team l.fn.interrupts.items l.changes.entries
      ≡ interrupts_after l.team l.interrupts.items (drop l.place l.changes.entries);
}
