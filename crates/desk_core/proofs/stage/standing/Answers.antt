use Rattle.drafts.specs.Edits.{on_base}
use Rattle.desk_core.specs.Stages.{found_of}
use Rattle.desk_core.proofs.StageLaws.{tested-standing}
use Rattle.desk_core.proofs.stage.standing.Goals as goal

pub returns-in_ok-infeasible-in-Tested-clause-ok :
    goal.returns-in_ok-infeasible-in-Tested-clause-ok
returns-in_ok-infeasible-in-Tested-clause-ok c =
    tested-standing (on_base c.args.draft.now) c.begin.new.stage c.in-Tested.judged
    c.in-Tested.found (found_of c.args.stage.now) c.in_ok-infeasible-in-Tested.infeasible
    c.in-Tested.is c.begin.ensures.kept c.begin.ensures.found
    c.in_ok-infeasible-in-Tested.ensures
