use Rattle.std.proofs.Common.{◌≡◌, drop}
use Rattle.drafts.specs.Edits.{has_put}
use Rattle.drafts.proofs.draft.Draft.has_put.Given as goal

-- none of the changes so far is a put
abbrev pub invariant-loop-place : goal.invariant-loop-place
invariant-loop-place l = has_put l.self.changes ≡ has_put (drop l.place l.self.changes)
