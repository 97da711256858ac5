use Rattle.std.proofs.Common.{List}
use Rattle.assignment.specs.Questions.{FindingData}
use Rattle.desk_core.specs.World.{live_at}
use Rattle.plays.specs.Plays.{IsBroughtAll}
use Rattle.plays.proofs.TestLaws.{left_of}
use Rattle.plays.proofs.asking.bring_all.Given as goal

abbrev pub invariant-loop-reply : goal.invariant-loop-reply
invariant-loop-reply l = (findings : List FindingData)
    × IsBroughtAll l.fn.core l.fn.draft findings l.core

abbrev pub decreases-loop-reply : goal.decreases-loop-reply
decreases-loop-reply l = left_of (live_at l.core.drafts l.fn.draft)
