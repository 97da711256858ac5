-- What a log was asked.
use Rattle.std.specs.Prelude.{ℕ, List, map}
use Rattle.drafts.specs.declared.change.Change.{Change}
use Rattle.drafts.specs.Machine.{Entry}

-- a team, and its changes by name
abbrev pub commit_of : Entry → ℕ × List (List ℕ × Change)
commit_of e = (e.team, e.changes)

-- the commits of a log, without their decisions
abbrev pub commits_of : List Entry → List (ℕ × List (List ℕ × Change))
commits_of log = map commit_of log
