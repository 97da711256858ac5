use Rattle.std.proofs.Common.{refl}
use Rattle.answering.proofs.CarriedOut.{shown}
use Rattle.desk_cli.proofs.Said.{one_fails_never, said_of_set}
use Rattle.desk_cli.proofs.of_one.say_placing.Goals as goal

pub returns : goal.returns
returns g c =
    let placed = c.args.placed.now in
    let answer = c.answer_set-answer.result in
    let answers = c.answer_set-answer.ensures in
    shown c.print_answer.ensures refl refl (one_fails_never c.args.options placed c.args.command answer answers)
    (λ wrote is. said_of_set c.args.options placed c.args.command answer _ _ _ answers wrote is)
