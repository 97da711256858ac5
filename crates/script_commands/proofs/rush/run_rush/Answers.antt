use Rattle.std.proofs.Common.{inl, inr, refl, string_bytes}
use Rattle.answering.specs.Refusals.{refusal_line}
use Rattle.answering.specs.declared.refusal.CommandRefusal.TheVariants.{Rush}
use Rattle.script_commands.proofs.rush.run_rush.Goals as goal

pub returns-in-Ok-rush_lines-clause-printed : goal.returns-in-Ok-rush_lines-clause-printed
returns-in-Ok-rush_lines-clause-printed g c = λ sound.
    let texts = c.in-Ok-rush_lines.texts in
    let told = string_bytes texts.notes in
    let rushed = rw c.deref.ensures.value at c.in-Ok-rush_lines.ensures in (
      string_bytes texts.log,
      c.print_both.ensures.printed sound,
      inr (
        c.in-Ok.lines.items,
        c.in-Ok.ensures.answer,
        inl (told, rushed, c.print_both.ensures.noted sound),
      ),
    )

pub returns-clause-printed : goal.returns-clause-printed
returns-clause-printed g c = λ sound.
    let fault = c.in-Err-rush_lines.fault in
    let said = c.refuse-in-Err-rush_lines.ensures in (
      refusal_line (Rush fault),
      said.printed sound,
      inr (c.in-Ok.lines.items, c.in-Ok.ensures.answer, inr (fault, refl, said.status sound, refl)),
    )
