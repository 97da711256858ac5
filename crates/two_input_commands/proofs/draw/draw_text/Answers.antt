use Rattle.std.proofs.Common.{◌∙◌, sym}
use Rattle.std.proofs.lemmas.Result.{err_from_is_err_and}
use Rattle.two_input_commands.proofs.Drawings.{unread, unseen}
use Rattle.two_input_commands.proofs.draw.draw_text.Goals as goal

pub returns-in_err-settings-clause-answer : goal.returns-in_err-settings-clause-answer
returns-in_err-settings-clause-answer c =
    let p = err_from_is_err_and c.from_residual-in_err-settings.result
    c.from_residual-in_err-settings.ensures.1 in
    rw (p.1, p.2) (unread c.args.options c.args.tasks.now c.args.text.now
    c.in_err-settings.field-0.0 c.in_err-settings.ensures)

pub returns-in_err-view-clause-answer : goal.returns-in_err-view-clause-answer
returns-in_err-view-clause-answer c =
    let p = err_from_is_err_and c.from_residual-in_err-view.result
    c.from_residual-in_err-view.ensures.1 in
    rw (p.1, p.2) (unseen c.args.options c.args.tasks.now c.args.text.now c.in_ok-answer.answer
    c.in_err-view.field-0.0 c.in_ok-answer.ensures.answer c.in_err-view.ensures)

pub returns-then-is_unseen-clause-answer : goal.returns-then-is_unseen-clause-answer
returns-then-is_unseen-clause-answer c = (
  c.in_ok-answer.answer,
  c.in_ok-view.view,
  c.in_ok-answer.ensures.answer,
  c.in_ok-view.ensures,
  sym c.is_unseen.ensures ∙ c.if-is_unseen.true,
)
