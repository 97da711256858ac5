use Rattle.std.proofs.Common.{◌≡◌, ◌<◌, List, [], length, sym, ◌∙◌, ap, arith}
use Rattle.task_sheet.specs.Sheet.{Named, Task, outranks_task, task_at}
use Rattle.task_sheet.proofs.TaskLaws.{task_read}
use Rattle.ceilings.proofs.OutrankedLaws.{AreRowsOf-none, AreRowsOf-row, AreRowsOf-skip}
use Rattle.ceilings.proofs.outranked.outranked_of.Goals as goal
use Rattle.ceilings.proofs.outranked.outranked_of.Goals.{then-not-is_empty, else-not-is_empty}

pub loop-index-init : goal.loop-index-init
loop-index-init c = AreRowsOf-none c.args.set.now c.empty-rows.result c.empty-rows.ensures

pub loop-index-preserved : goal.loop-index-preserved
loop-index-preserved c =
    let U = c.args.set.now in
    let n = c.loop-index.index in
    let within : n < length U = rw (c.sheets-sheet-items.ensures.same) at c.loop-index-test.true in
    let few : n < 32 = omega (
      arith,
      within,
      c.sheets-sheet-items.ensures.kept.few,
      ap (λ (V : List Task). length V) c.sheets-sheet-items.ensures.same,
    ) in
    let is = task_read U c.sheets-sheet-items.result.now n c.sheet-item.result
    c.sheets-sheet-items.ensures.same within c.sheet-item.is in
    elim c.if-not-is_empty.branch [
      | then-not-is_empty w ↦
          AreRowsOf-row U c.loop-index.rows c.if-not-is_empty.rows n w.outranked.result
          c.loop-index.invariant few w.rows-is
          (λ k lt. w.outranked.ensures k lt ∙ ap (λ (t : Task). outranks_task t (task_at U k)) is)
      | else-not-is_empty w ↦
          let none : (task_at U n).outranks ≡ Named [] =
          sym (c.outranks.ensures ∙ ap (λ (t : Task). t.outranks) is)
          ∙ c.is_empty.ensures.0 w.if-not-is_empty.false in
          rw w.rows-is (AreRowsOf-skip U c.loop-index.rows n c.loop-index.invariant none)
    ]

pub returns : goal.returns
returns c = λ i k lt within.
    let all : i < c.loop-index.index = omega (
      arith,
      c.loop-index-test.false,
      lt,
      ap (λ (U : List Task). length U) c.sheets-sheet-items.ensures.same,
    ) in
    c.loop-index.invariant.done i k all within
