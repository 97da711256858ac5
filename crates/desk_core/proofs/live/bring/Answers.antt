use Rattle.desk_core.proofs.BroughtLaws.{telling, told-found}
use Rattle.desk_core.proofs.live.bring.Goals as goal

pub reply_to-requires-clause-told : goal.reply_to-requires-clause-told
reply_to-requires-clause-told c = telling c.args.trial.now c.take.new.self c.args.finding.question
    c.in_ok-told.told c.in_ok-told.ensures.told c.in_ok-told.ensures.same c.in_ok-told.ensures.found

pub returns-clause-brought : goal.returns-clause-brought
returns-clause-brought c = λ outcome so.
    told-found outcome c.args.trial.now c.take.new.self c.args.finding.question c.in_ok-told.told
    c.reply_to.result so c.in_ok-told.ensures.told c.in_ok-told.ensures.same
    c.in_ok-told.ensures.found c.reply_to.ensures
