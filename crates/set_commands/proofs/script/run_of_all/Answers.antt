use Rattle.std.proofs.Common.{◌∙◌, Ok, Err, refl}
use Rattle.owners.specs.Parts.{parts_of}
use Rattle.answering.proofs.CarriedOut.{carried_out, done_ends, refused, shown}
use Rattle.set_commands.proofs.script.run_of_all.Goals as goal

pub returns-in-Ok : goal.returns-in-Ok
returns-in-Ok g c =
    let script = c.in-Ok.ensures.answer in
    let parts = parts_of script.owners script.set in
    let lines = c.as_bytes.ensures.value ∙ script.says.1 in
    carried_out c.in-Ok.ensures.read
    (shown c.print.ensures lines refl done_ends
    (λ wrote is. (Ok parts, (script.set, script.owners, script.has, refl, script.says.0), wrote, is)))

pub returns-in-Err : goal.returns-in-Err
returns-in-Err g c = refused c.in-Err.ensures.read c.refuse.ensures
    (λ wrote is. (Err c.in-Err.refusal, c.in-Err.ensures.answer, wrote, is))
