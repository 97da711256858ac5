use Rattle.std.proofs.Common.{◌∙◌, ◌++◌, ℕ, List, add-one, ap, string_bytes}
use Rattle.task_sheet.specs.Sheet.{Task}
use Rattle.task_sheet.proofs.TaskLaws.{task_read}
use Rattle.limit_lines.specs.LimitLines.{number_at}
use Rattle.limit_lines.proofs.text.task_text.Goals as goal

pub loop-place-preserved : goal.loop-place-preserved
loop-place-preserved c =
    let front : List ℕ = string_bytes c.loop-place.text in
    let read = task_read c.args.set.now c.sheets.result.now c.args.task c.index-sheets-task.result
    c.sheets.ensures.same c.requires.task c.index-sheets-task.is in
    let number = c.number_at-number.ensures.same
    ∙ ap (λ (t : Task). number_at c.args.owners.now t c.loop-place.place) read in
    rw add-one (
      front,
      string_bytes c.in_ok-line.line,
      c.loop-place.invariant,
      rw (number, c.as_str-whose.ensures.value, c.in_ok-name.ensures, c.tasks.ensures, c.is_clocked-clocked.ensures) at
          c.in_ok-line.ensures,
      c.in_ok-push_str.ensures.bytes ∙ ap (λ (t : List ℕ). front ++ t) c.as_str.ensures.value,
    )
