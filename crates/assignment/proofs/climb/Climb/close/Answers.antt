use Rattle.std.proofs.Common.{rules}
use Rattle.assignment.proofs.climb.Climb.close.Goals as goal

pub returns : goal.returns
returns c =
    (c.expects.ensures.0 (search rules), c.decided.ensures.0 (search rules), c.close_own.ensures)
