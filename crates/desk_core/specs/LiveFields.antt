-- How a `Live` keeps its test.
use Rattle.desk_core.specs.World.{Live}
use Rattle.drafts.specs.Edits.{on_base}
use Rattle.desk_core.specs.Stages.{found_of, IsStage}
use Rattle.desk_core.specs.declared.live.Live.TheInside.{Inside}

-- what callers see of a draft that is live
abbrev pub live_of : Inside → Live
live_of a = record { draft = a.draft; found = found_of a.stage }

-- what is kept of the test is right
abbrev pub IsLiveKept : Inside → Type 0
IsLiveKept a = IsStage (on_base a.draft) a.stage
