use Rattle.std.proofs.Common.{◌∙◌, List, sym, subst}
use Rattle.std.specs.Prelude.{Err}
use Rattle.std.proofs.lemmas.Result.{err_from_is_err_and}
use Rattle.task_sheet.specs.Sheet.{Task}
use Rattle.two_input_commands.specs.View.{AsksRows, IsViewOf, rows_word}
use Rattle.two_input_commands.proofs.BesideRefusals.{view_refused}
use Rattle.two_input_commands.proofs.beside.runs_beside.Goals as goal

pub returns-in_err-view-clause-answer : goal.returns-in_err-view-clause-answer
returns-in_err-view-clause-answer c =
    let p = err_from_is_err_and c.from_residual-in_err-view.result
    c.from_residual-in_err-view.ensures.1 in
    let why = subst (λ (U : List Task). AsksRows U (rows_word c.args.options) (Err c.in_err-view.field-0.0))
    c.both-sets.ensures c.in_err-view.ensures in
    rw (p.1, p.2) (view_refused c.args.asking c.args.tasks.now c.args.text.now c.args.options
    c.in_ok-was.set c.in_ok-was.was' c.in_ok-was.is' c.in_err-view.field-0.0 c.in_ok-was.ensures.answer why)

pub returns-then-are_unseen-clause-answer : goal.returns-then-are_unseen-clause-answer
returns-then-are_unseen-clause-answer c = (
  c.in_ok-was.set,
  c.in_ok-was.was',
  c.in_ok-was.is',
  c.in_ok-view.view,
  c.in_ok-was.ensures.answer,
  subst (λ (U : List Task). IsViewOf U c.args.options c.in_ok-view.view)
      c.both-sets.ensures c.in_ok-view.ensures,
  sym c.are_unseen.ensures ∙ c.if-are_unseen.true,
)
