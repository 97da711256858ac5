use Rattle.std.proofs.Common.{refl}
use Rattle.answering.proofs.CarriedOut.{shown}
use Rattle.desk_cli.proofs.Said.{never_fails, said_of_both}
use Rattle.desk_cli.proofs.of_two.say_both.Goals as goal

pub returns : goal.returns
returns g c =
    let both = c.args.both.now in
    let answer = c.answer_both-answer.result in
    let answers = c.answer_both-answer.ensures in
    shown c.print_answer.ensures refl refl (never_fails c.args.options both c.args.command answer answers)
    (λ wrote is. said_of_both c.args.options both c.args.command answer _ _ _ answers wrote is)
