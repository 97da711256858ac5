use Rattle.std.proofs.Common.{subst}
use Rattle.drafts.specs.Edits.{on_base}
use Rattle.desk_core.specs.declared.stage.Stage.{Stage}
use Rattle.desk_core.specs.Stages.{found_of}
use Rattle.desk_core.specs.World.{IsTestedOn}
use Rattle.desk_core.proofs.StageLaws.{fresh-untested}
use Rattle.desk_core.proofs.stage.is_surely_untested.Goals as goal

pub returns-in-Fresh : goal.returns-in-Fresh
returns-in-Fresh c = λ put tested.
    let outcome = on_base c.args.draft.now in
    fresh-untested outcome (c.has_put.ensures.tasks put)
    (subst (λ (s : Stage). IsTestedOn outcome (found_of s)) c.in-Fresh.is tested)
