use Rattle.std.proofs.Common.{◌∙◌, ℕ, Ok, Err, refl, ap}
use Rattle.scripted.specs.Scripted.{script_of}
use Rattle.answering.proofs.CarriedOut.{carried_out, done_ends, refused, shown}
use Rattle.set_commands.proofs.script.run_of_team.Goals as goal

pub returns-in-Ok : goal.returns-in-Ok
returns-in-Ok g c =
    let script = c.in-Ok.ensures.answer in
    let same = ap (λ (team : ℕ). script_of team script.set) c.in-Some.ensures.some.0 in
    let lines = c.as_bytes.ensures.value ∙ script.says ∙ same in
    carried_out c.in-Ok.ensures.read
    (shown c.print.ensures lines refl done_ends (λ wrote is. (Ok script.set, script.has, wrote, is)))

pub returns-in-Err : goal.returns-in-Err
returns-in-Err g c =
    refused c.in-Err.ensures.read c.refuse.ensures
    (λ wrote is. (Err c.in-Err.refusal, c.in-Err.ensures.answer, wrote, is))
