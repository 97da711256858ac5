use Rattle.std.proofs.Common.{◌≡◌, ◌++◌, Err, inl, inr, refl, ap}
use Rattle.std.specs.Prelude.{⊤, Result}
use Rattle.plays.specs.declared.playing.PlayFault.{PlayFault}
use Rattle.plays.specs.declared.playing.PlayFault.TheVariants as play
use Rattle.answering.specs.Refusals.{refusal_line}
use Rattle.answering.specs.declared.refusal.CommandRefusal.TheVariants.{OutOfMemory}
use Rattle.answering.proofs.CarriedOut.{broken, done_ends, never_err, said_sound, wanting_after}
use Rattle.script_commands.proofs.playing.play.Goals as goal

-- out of memory is no failed write
apart : (f : PlayFault) (r : Result ⊤ PlayFault) → r ≡ Err f → f ≡ play.OutOfMemory
    → r ≡ Err play.WriteFailed → ⊥
apart f r is memory same = cc

pub returns-in-Ok : goal.returns-in-Ok
returns-in-Ok g c =
    let played = c.in-Ok.ensures in
    said_sound (played.ok never_err) done_ends
    (played.all.0, played.all.2, inl (played.all.1, refl))

pub returns-in-Err-OutOfMemory : goal.returns-in-Err-OutOfMemory
returns-in-Err-OutOfMemory g c =
    let told = c.in-Err-OutOfMemory.ensures.some
    (ap (λ (f : PlayFault). Err f) c.in-Err-OutOfMemory.field-0-is) in
    wanting_after told.0 (c.in-Err-OutOfMemory.ensures.ok
    (apart _ _ refl c.in-Err-OutOfMemory.field-0-is)) told.2 c.refuse.ensures
    (λ wrote is. (told.0 ++ refusal_line OutOfMemory, wrote, inr (told.0, told.1, refl, is)))

pub returns-in-Err-WriteFailed : goal.returns-in-Err-WriteFailed
returns-in-Err-WriteFailed g c = broken (c.in-Err-WriteFailed.ensures.failed
    (ap (λ (f : PlayFault). Err f) c.in-Err-WriteFailed.field-0-is))
