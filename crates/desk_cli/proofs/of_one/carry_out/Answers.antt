use Rattle.std.proofs.Common.{◌≡◌, Ok, inr, refl}
use Rattle.command_line.specs.declared.calls.OfOne.{OfOne}
use Rattle.command_line.specs.declared.calls.OfOne.TheVariants.{Certify, Script, Play}
use Rattle.desk_cli.specs.Saying.{IsOfPlacing}
use Rattle.answering.proofs.CarriedOut.{carried_out, refused, said_as}
use Rattle.desk_cli.proofs.Refused.{one_refused, placed_refused}
use Rattle.desk_cli.proofs.of_one.carry_out.Goals as goal

-- the commands that are left
of_placing : (c : OfOne) → (c ≡ Certify → ⊥) → (c ≡ Script → ⊥) → (c ≡ Play → ⊥) → IsOfPlacing c
of_placing Certify one two three = absurd (one refl)
of_placing Script one two three = absurd (two refl)
of_placing Play one two three = absurd (three refl)
of_placing _ one two three = tt

pub say_placing-requires-clause-command : goal.say_placing-requires-clause-command
say_placing-requires-clause-command g c =
    of_placing c.args.command c.in_default.not-Certify c.in_default.not-Script c.in_default.not-Play

pub returns-in-Script : goal.returns-in-Script
returns-in-Script g c = rw c.in-Script.is c.run_script.ensures

pub returns-in-Ok : goal.returns-in-Ok
returns-in-Ok g c =
    let answer = rw c.asking_of-asking.ensures at c.in-Ok.ensures.answer in
    rw c.in-Certify.is
    (carried_out c.in-Ok.ensures.read (said_as c.print_certificate.ensures
    (λ told. (Ok c.in-Ok.certificate, answer, told.0, told.1))))

pub returns-in-Err : goal.returns-in-Err
returns-in-Err g c =
    let answer = rw c.asking_of-asking.ensures at c.in-Err.ensures.answer in
    rw c.in-Certify.is (refused c.in-Err.ensures.read c.refuse.ensures (λ wrote is. one_refused _ _
    _ c.in-Err.refusal wrote is Certify c.args.options _ answer))

pub returns-in-Ok-lines_of : goal.returns-in-Ok-lines_of
returns-in-Ok-lines_of g c =
    let lines = c.in-Ok-lines_of.lines.items in
    rw c.in-Play.is (carried_out c.in-Ok-lines_of.ensures.read (said_as c.play.ensures
    (λ played. (played.0, played.1, inr (lines, c.in-Ok-lines_of.ensures.answer, played.2)))))

pub returns-in-Err-lines_of : goal.returns-in-Err-lines_of
returns-in-Err-lines_of g c =
    rw c.in-Play.is (refused c.in-Err-lines_of.ensures.read c.refuse-in-Err-lines_of.ensures
    (λ wrote is. one_refused _ _ _ c.in-Err-lines_of.refusal wrote is Play c.args.options _
    c.in-Err-lines_of.ensures.answer))

pub returns-in-Ok-place : goal.returns-in-Ok-place
returns-in-Ok-place g c =
    let placed = rw c.asking_of-asking.ensures at c.in-Ok-place.ensures.answer in
    carried_out c.in-Ok-place.ensures.read (said_as c.say_placing.ensures
    (λ told. told (g.R.Read.remaining c.args.input.now.inner) placed))

pub returns-in-Err-place : goal.returns-in-Err-place
returns-in-Err-place g c =
    let answer = rw c.asking_of-asking.ensures at c.in-Err-place.ensures.answer in
    refused c.in-Err-place.ensures.read c.refuse-in-Err-place.ensures
    (λ wrote is. placed_refused _ _ _ c.in-Err-place.refusal wrote is c.args.command c.args.options
    _ c.in_default.not-Play answer)
