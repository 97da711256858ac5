use Rattle.drafts.specs.Edits.{on_base}
use Rattle.desk_core.specs.Stages.{found_of}
use Rattle.desk_core.proofs.StageLaws.{tested-stage, tested-unasked}
use Rattle.desk_core.proofs.stage.question.Goals as goal

pub returns-in-Tested-clause-ok : goal.returns-in-Tested-clause-ok
returns-in-Tested-clause-ok c =
    let outcome = on_base c.args.draft.now in
    let found = found_of c.args.stage.now in
    let on = tested-stage outcome c.begin.new.stage c.in-Tested.judged c.in-Tested.found found
    c.in-Tested.is c.begin.ensures.kept c.begin.ensures.found in
    tested-unasked outcome found c.args.name on.0
