use Rattle.std.proofs.Common.{◌++◌, List, length}
use Rattle.owners.specs.Followers.{AreFollowersOfText}
use Rattle.task_lines.specs.declared.owner.Owner.{Owner}
use Rattle.owners.proofs.followers.parts_followers.Given as goal

abbrev pub invariant-loop-part : goal.invariant-loop-part
invariant-loop-part l = (more : List Owner) → AreFollowersOfText l.rest more
    → AreFollowersOfText l.text (l.owners.items ++ more)

abbrev pub decreases-loop-part : goal.decreases-loop-part
decreases-loop-part l = length l.rest
