use Rattle.std.proofs.Common.{◌∙◌, ℕ, List, ap, subst}
use Rattle.std.specs.Prelude.{Err}
use Rattle.std.proofs.lemmas.Result.{err_from_is_err_and}
use Rattle.two_input_commands.specs.Draw.{DrawsText}
use Rattle.two_input_commands.proofs.draw.run_both.Goals as goal

pub returns : goal.returns
returns c = (
  c.in_ok-drawing.drawing,
  rw c.deref.ensures.value at c.in_ok-drawing.ensures.answer,
  ap (λ v. v.items) c.into_bytes.ensures.value ∙ c.in_ok-text.ensures,
  c.simulation_status.ensures,
)

pub returns-in_err-drawing : goal.returns-in_err-drawing
returns-in_err-drawing c =
    let p = err_from_is_err_and c.from_residual.result c.from_residual.ensures.1 in
    let why = subst (λ (text : List ℕ). DrawsText c.args.options c.args.both.now.tasks text
    (Err c.in_err-drawing.field-0.0)) c.deref.ensures.value c.in_err-drawing.ensures.answer in
    rw (p.1, p.2) why
