use Rattle.std.proofs.Common.{◌∙◌, sym}
use Rattle.desk_core.proofs.StageLaws.{trying-done}
use Rattle.desk_core.proofs.stage.put_away.Goals as goal

pub returns-in-Trying-clause-complete : goal.returns-in-Trying-clause-complete
returns-in-Trying-clause-complete c = λ outcome so begun tested.
    c.rest_of.ensures.complete (trying-done outcome c.args.stage.now c.in-Trying.trial
    (sym c.replace.ensures.value ∙ c.in-Trying.is) so tested)
