use Rattle.drafts.specs.Edits.{on_base}
use Rattle.desk_core.specs.Stages.{found_of}
use Rattle.desk_core.proofs.BroughtLaws.{tested-stranger}
use Rattle.desk_core.proofs.StageLaws.{trying-stage, tested-stage}
use Rattle.desk_core.proofs.live.bring_to.Goals as goal

pub returns-in-Trying-clause-found : goal.returns-in-Trying-clause-found
returns-in-Trying-clause-found c =
    let outcome = on_base c.args.draft.now in
    let on = trying-stage outcome c.begin.new.stage c.in-Trying.trial c.deref_mut.result.now
    (found_of c.args.stage.now) c.in-Trying.is c.deref_mut.ensures.value c.begin.ensures.kept
    c.begin.ensures.found in
    rw on.1 at (c.bring.ensures.brought outcome on.0)

pub returns-in-Tested-clause-found : goal.returns-in-Tested-clause-found
returns-in-Tested-clause-found c =
    let outcome = on_base c.args.draft.now in
    let found = found_of c.args.stage.now in
    let on = tested-stage outcome c.begin.new.stage c.in-Tested.judged c.in-Tested.found found
    c.in-Tested.is c.begin.ensures.kept c.begin.ensures.found in
    tested-stranger outcome found (found_of c.begin.new.stage) c.args.finding.question on.0
    c.begin.ensures.found
