use Rattle.std.proofs.Common.{◌≡◌, ◌<◌, List, [], ◌∷◌, length, slice_index_or, ap, refl, sym, subst}
use Rattle.std.proofs.Common.{arith, length-append}
use Rattle.std.proofs.lemmas.Result.{IfOk-weaker}
use Rattle.task_sheet.specs.Sheet.{Task}
use Rattle.run_lines.specs.TaskBounds.{tasks_of_bounds}
use Rattle.run_lines.specs.declared.bounds.TaskBound.{TaskBound}
use Rattle.ceiling_kernel.proofs.OrderLaws.{order_iff, order_length}
use Rattle.frames.specs.declared.rows.TaskRow.{TaskRow}
use Rattle.drawn_runs.specs.DrawnRows.{Looks, drawn_row, rows_of}
use Rattle.two_input_commands.specs.Draw.{looks_of}
use Rattle.two_input_commands.proofs.draw.rows_in.Goals as goal

-- as many rows as tasks
count_of : (U : List Task) (looks : Looks) (bounds : List TaskBound)
    → length (rows_of U looks bounds) ≡ length (tasks_of_bounds bounds)
count_of U looks [] = refl
count_of U looks (b ∷ bounds) =
    let rows = rows_of U looks bounds in
    omega (
      arith,
      count_of U looks bounds,
      length-append rows (drawn_row U looks rows b ∷ []),
    )

pub rows_of-requires : goal.rows_of-requires
rows_of-requires c = λ k d lt.
    let U = c.args.set.now in
    let tasks = tasks_of_bounds c.args.bounds.now in
    subst (λ (V : List Task). slice_index_or tasks k d < length V) (sym c.of.ensures)
    (((order_iff (length U) tasks).1 c.requires).0 k d lt)

pub returns-clause-few : goal.returns-clause-few
returns-clause-few c =
    let U = c.args.set.now in
    let bounds = c.args.bounds.now in
    let all = order_length (length U) (tasks_of_bounds bounds) c.requires in
    IfOk-weaker c.rows_of.result _ _
    (λ rows is. omega (
      arith,
      c.sheets.ensures.kept.few,
      all,
      count_of c.of.result (looks_of c.args.looks.now) bounds,
      ap (λ (rs : List TaskRow). length rs) is,
    ))
    c.rows_of.ensures
