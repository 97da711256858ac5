use Rattle.std.proofs.Common.{◌∙◌, Ok, Err, inl, refl}
use Rattle.answering.specs.declared.refusal.CommandRefusal.TheVariants as refusal
use Rattle.answering.proofs.CarriedOut.{carried_out, done_ends, refused, shown, wanting}
use Rattle.set_commands.proofs.releases.run_releases.Goals as goal

pub returns-in-Ok-list_text : goal.returns-in-Ok-list_text
returns-in-Ok-list_text g c =
    let answer = rw c.asking_of-asking.ensures at c.in-Ok.ensures.answer in
    let lines = c.as_bytes.ensures.value ∙ rw c.deref.ensures.value at c.in-Ok-list_text.ensures in
    carried_out c.in-Ok.ensures.read (shown c.print.ensures lines refl done_ends
    (λ wrote is. (Ok c.in-Ok.releases, answer, wrote, is)))

-- out of memory for the lines is an answer of its own
pub returns-in-Ok : goal.returns-in-Ok
returns-in-Ok g c = carried_out c.in-Ok.ensures.read
    (wanting c.refuse.ensures (λ wrote is. (Err refusal.OutOfMemory, inl tt, wrote, is)))

pub returns : goal.returns
returns g c =
    let answer = rw c.asking_of-asking.ensures at c.in-Err.ensures.answer in
    refused c.in-Err.ensures.read c.refuse-in-Err.ensures
    (λ wrote is. (Err c.in-Err.refusal, answer, wrote, is))
