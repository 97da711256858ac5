use Rattle.std.proofs.Common.{Err, ◌∙◌, sym, ap}
use Rattle.std.proofs.lemmas.Result.{err_from_is_err_and}
use Rattle.rushes.proofs.PartLaws.{first_behind}
use Rattle.rushes.proofs.teams.teams_of.Goals as goal

pub returns-in_err-ended-clause-fault : goal.returns-in_err-ended-clause-fault
returns-in_err-ended-clause-fault g c =
    let p = err_from_is_err_and c.from_residual.result c.from_residual.ensures.1 in
    rw p.1
    (first_behind c.loop-ended.teams.items c.args.ends.items _ _ c.in-Some.ended p.0
    c.loop-ended.invariant.rest
    c.in-Some.ensures.steps.0
    (c.in_err-ended.was ∙ ap (λ fault. Err fault) (sym p.2)))
