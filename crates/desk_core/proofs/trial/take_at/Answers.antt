use Rattle.desk_core.proofs.ClosingLaws.{closing-taken}
use Rattle.desk_core.proofs.trial.take_at.Goals as goal

pub returns-in-Ok : goal.returns-in-Ok
returns-in-Ok c =
    let taken = c.in-Ok.ensures in
    let decided = rw taken.2 at (c.decided.ensures.0 c.if-decided.true) in
    closing-taken c.args.climb.now c.args.level c.args.finding.question c.close_level.new.climb
    c.close_level.result (taken.0, taken.1) decided c.close_level.ensures
