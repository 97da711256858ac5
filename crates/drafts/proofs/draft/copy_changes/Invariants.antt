use Rattle.std.proofs.Common.{◌≡◌, take}
use Rattle.drafts.proofs.draft.copy_changes.Given as goal

abbrev pub invariant-loop-place : goal.invariant-loop-place
invariant-loop-place l = l.copies.entries ≡ take l.place l.changes.entries
