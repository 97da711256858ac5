use Rattle.desk_core.proofs.AdvanceLaws.{tried-none, tried-some}
use Rattle.desk_core.proofs.BroughtLaws.{telling}
use Rattle.desk_core.proofs.live.advance.Goals as goal

pub reply_to-requires-clause-told : goal.reply_to-requires-clause-told
reply_to-requires-clause-told c =
    let tried = rw c.in-Some.is at c.in_ok-told.ensures.ok in
    telling c.args.trial.now c.advance.new.self tried.0.question c.in-Some.told tried.1.answer
    tried.1.same tried.1.found

pub returns-in-Some-clause-ok : goal.returns-in-Some-clause-ok
returns-in-Some-clause-ok c = λ outcome so.
    tried-some outcome c.args.trial.now c.advance.new.self c.in-Some.told c.reply_to.result so
    (rw c.in-Some.is at c.in_ok-told.ensures.ok) c.reply_to.ensures

pub returns-in-None-clause-ok : goal.returns-in-None-clause-ok
returns-in-None-clause-ok c = λ outcome so.
    tried-none outcome c.args.trial.now c.advance.new.self so
    (rw c.in-None.is at c.in_ok-told.ensures.ok)
