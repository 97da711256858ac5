use Rattle.drafts.specs.Edits.{on_base}
use Rattle.desk_core.specs.Stages.{found_of}
use Rattle.desk_core.proofs.AdvanceLaws.{tested-silent}
use Rattle.desk_core.proofs.StageLaws.{trying-stage, tested-stage}
use Rattle.desk_core.proofs.live.advance_to.Goals as goal

pub returns-in-Trying-clause-ok : goal.returns-in-Trying-clause-ok
returns-in-Trying-clause-ok c =
    let outcome = on_base c.args.draft.now in
    let on = trying-stage outcome c.begin.new.stage c.in-Trying.trial c.deref_mut.result.now
    (found_of c.args.stage.now) c.in-Trying.is c.deref_mut.ensures.value c.begin.ensures.kept
    c.begin.ensures.found in
    rw on.1 at (c.advance.ensures.ok outcome on.0)

pub returns-in-Tested-clause-ok : goal.returns-in-Tested-clause-ok
returns-in-Tested-clause-ok c =
    let outcome = on_base c.args.draft.now in
    let found = found_of c.args.stage.now in
    let on = tested-stage outcome c.begin.new.stage c.in-Tested.judged c.in-Tested.found found
    c.in-Tested.is c.begin.ensures.kept c.begin.ensures.found in
    (tested-silent outcome found on.0, c.begin.ensures.found)
