use Rattle.answering.proofs.CarriedOut.{carried_out_on_both, refused_on_both, said_as}
use Rattle.desk_cli.proofs.Refused.{two_refused}
use Rattle.desk_cli.proofs.of_two.carry_out_on_both.Goals as goal

pub returns-in-Ok : goal.returns-in-Ok
returns-in-Ok g c =
    let has = rw (c.first_asking-asking.ensures, c.most_of-most.ensures.most) at c.in-Ok.ensures.answer in
    carried_out_on_both c.in-Ok.ensures.read (said_as c.say_both.ensures (λ told.
    told (g.R.Read.remaining c.args.set.now.inner) (g.S.Read.remaining c.args.other.now.inner) has))

pub returns-in-Err : goal.returns-in-Err
returns-in-Err g c =
    let answer = rw (c.first_asking-asking.ensures, c.most_of-most.ensures.most) at c.in-Err.ensures.answer in
    refused_on_both c.in-Err.ensures.read c.refuse.ensures (λ wrote is. two_refused _ _ _ _ wrote is
    c.args.command c.args.options _ _ answer)
