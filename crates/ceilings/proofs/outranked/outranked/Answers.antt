use Rattle.std.proofs.Common.{◌≡◌, ◌<◌, List, length, sym, ◌∙◌, ap, arith}
use Rattle.std.proofs.lemmas.Bool.{lt-ltb}
use Rattle.task_sheet.specs.Sheet.{Task, outranks_task, task_at}
use Rattle.task_sheet.proofs.TaskLaws.{task_read}
use Rattle.ceilings.proofs.OutrankedLaws.{AreBelow-none, AreBelow-with, AreBelow-skip}
use Rattle.ceilings.proofs.outranked.outranked.Goals as goal
use Rattle.ceilings.proofs.outranked.outranked.Goals.{then-must_outrank, else-must_outrank}

pub loop-index-init : goal.loop-index-init
loop-index-init c = rw c.empty-found.ensures (AreBelow-none _)

pub loop-index-preserved : goal.loop-index-preserved
loop-index-preserved c =
    let U = c.args.set.now in
    let n = c.loop-index.index in
    let within : n < length U = rw (c.sheets-other-items.ensures.same) at c.loop-index-test.true in
    let is = task_read U c.sheets-other-items.result.now n c.other-item.result
    c.sheets-other-items.ensures.same within c.other-item.is in
    let here : c.must_outrank.result ≡ outranks_task c.args.sheet.now (task_at U n) =
    c.must_outrank.ensures ∙ ap (λ (t : Task). outranks_task c.args.sheet.now t) is in
    elim c.if-must_outrank.branch [
      | then-must_outrank w ↦ rw (w.found-is, w.with-found.ensures) (AreBelow-with _
          c.loop-index.found n c.loop-index.invariant (sym here ∙ w.if-must_outrank.true))
      | else-must_outrank w ↦ rw w.found-is (AreBelow-skip _ c.loop-index.found n
          c.loop-index.invariant (sym here ∙ w.if-must_outrank.false))
    ]

pub returns : goal.returns
returns c = λ k lt.
    let all : k < c.loop-index.index = omega (
      arith,
      c.loop-index-test.false,
      lt,
      ap (λ (U : List Task). length U) c.sheets-other-items.ensures.same,
    ) in
    c.loop-index.invariant k ∙ rw (lt-ltb k c.loop-index.index all)
