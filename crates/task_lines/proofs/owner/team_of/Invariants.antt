use Rattle.std.proofs.Common.{◌≡◌, drop}
use Rattle.task_lines.specs.Teams.{team_of}
use Rattle.task_lines.proofs.owner.team_of.Given as goal

abbrev pub invariant-loop-owner : goal.invariant-loop-owner
invariant-loop-owner l = team_of (drop l.owner-index l.owners) l.name ≡ team_of l.owners l.name
