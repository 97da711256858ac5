use Rattle.std.proofs.Common.{refl}
use Rattle.drafts.specs.Edits.{on_base}
use Rattle.desk_core.specs.Stages.{found_of}
use Rattle.desk_core.proofs.StageLaws.{trying-stage, trying-tested, tested-stage}
use Rattle.desk_core.proofs.stage.is_tested.Goals as goal

pub returns-in-Trying-clause-ok : goal.returns-in-Trying-clause-ok
returns-in-Trying-clause-ok c =
    let outcome = on_base c.args.draft.now in
    let found = found_of c.args.stage.now in
    let on = trying-stage outcome c.begin.new.stage c.in-Trying.trial c.deref.result.now found
    c.in-Trying.is c.deref.ensures c.begin.ensures.kept c.begin.ensures.found in
    let both = trying-tested outcome c.deref.result.now found on.0 on.1 in
    (λ yes. both.0 (c.is_tested.ensures.0 yes), λ tested. c.is_tested.ensures.1 (both.1 tested))

pub returns-in-Tested-clause-ok : goal.returns-in-Tested-clause-ok
returns-in-Tested-clause-ok c =
    let on = tested-stage (on_base c.args.draft.now) c.begin.new.stage c.in-Tested.judged
    c.in-Tested.found _ c.in-Tested.is c.begin.ensures.kept c.begin.ensures.found in
    (λ yes. on.0, λ tested. refl)
