use Rattle.std.proofs.Common.{◌≡◌, ◌∙◌, ◌++◌, List, map, ℕ, IfOk, ap, ap₂, string_bytes, subst}
use Rattle.task_sheet.specs.Sheet.{Task}
use Rattle.frames.specs.declared.rows.TaskRow.{TaskRow}
use Rattle.picture.specs.Beside.{Run, document_beside}
use Rattle.two_input_commands.specs.Beside.{drawn_run, toned_as}
use Rattle.two_input_commands.specs.Draw.{task_tones}
use Rattle.two_input_commands.proofs.beside.picture_of_both.Goals as goal

pub returns : goal.returns
returns c =
    let b = c.args.beside.now in
    let all : List Task = c.args.tasks.now ++ b.set in
    let tones = c.in_ok-tones.ensures ∙ ap task_tones c.both-sets.ensures in
    let olds = c.in_ok-olds.ensures.rows all (c.deref.ensures.value ∙ tones) in
    let rows = c.in_ok-rows.ensures.rows all (c.deref-2.ensures.value ∙ tones) in
    let news = c.in_ok-news.ensures
    ∙ ap₂ (λ (os rs : List TaskRow). map (toned_as os) rs) (c.deref-3.ensures.value ∙ olds) rows in
    let old = c.drawn_run-old.ensures.run
    ∙ ap (λ (rs : List TaskRow). drawn_run rs c.args.was.now) (c.deref-4.ensures.value ∙ olds) in
    let new = c.drawn_run-new.ensures.run
    ∙ ap (λ (rs : List TaskRow). drawn_run rs c.args.is.now) (c.deref-5.ensures.value ∙ news) in
    subst (λ (text : List ℕ). IfOk c.draw_beside.result (λ t. string_bytes t ≡ text))
    (ap₂ (λ (w i : Run). document_beside w i b.view) old new) c.draw_beside.ensures
