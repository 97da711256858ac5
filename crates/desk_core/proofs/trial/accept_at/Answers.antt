use Rattle.desk_core.proofs.ClosingLaws.{closing-taken}
use Rattle.desk_core.proofs.trial.accept_at.Goals as goal

pub returns-then-decided : goal.returns-then-decided
returns-then-decided c =
    let decided = rw c.accept.ensures at (c.decided.ensures.0 c.if-decided.true) in
    closing-taken c.args.climb.now c.args.level c.args.finding.question c.close_level.new.climb
    c.close_level.result c.requires.new decided c.close_level.ensures
