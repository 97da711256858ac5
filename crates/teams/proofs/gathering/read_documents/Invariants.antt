use Rattle.std.proofs.Common.{length}
use Rattle.teams.specs.Gathering.{AreGathered}
use Rattle.teams.proofs.gathering.read_documents.Given as goal

abbrev pub invariant-loop-rest : goal.invariant-loop-rest
invariant-loop-rest l = AreGathered l.text l.rest l.sets.items

abbrev pub decreases-loop-rest : goal.decreases-loop-rest
decreases-loop-rest l = length l.rest
