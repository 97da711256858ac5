use Rattle.std.proofs.Common.{◌≡◌, ◌≤◌, max, length, ◌∙◌, ap, arith}
use Rattle.std.proofs.lemmas.List.{take_all}
use Rattle.task_sheet.proofs.Common.{greatest_of}
use Rattle.task_sheet.proofs.Below.{ord_max-is}
use Rattle.ceilings.proofs.HoldLaws.{greatest-next}
use Rattle.limits.specs.Cuts.{longest_in}
use Rattle.limits.proofs.CutLaws.{longest-short}
use Rattle.limits.proofs.cuts.longest_on.Goals as goal

pub loop-sheet-preserved : goal.loop-sheet-preserved
loop-sheet-preserved c =
    let f = longest_in c.args.lock in
    let x = c.sheet-item.result in
    let more : c.max-longest.result ≡ max c.loop-sheet.longest (f x) =
    omega (arith, c.max-longest.ensures, ord_max-is, c.longest_in.ensures) in
    greatest-next f c.sheets-sheet-items.result.now c.loop-sheet.sheet-index x
    c.loop-sheet.longest c.max-longest.result c.loop-sheet-test.true c.sheet-item.is
    c.loop-sheet.invariant more

pub returns-clause-short : goal.returns-clause-short
returns-clause-short c =
    let f = longest_in c.args.lock in
    let items = c.sheets-sheet-items.result.now in
    let past : length items ≤ c.loop-sheet.sheet-index = omega (arith, c.loop-sheet-test.false) in
    omega (
      arith,
      longest-short c.args.lock c.args.set.now c.sheets-sheet-items.ensures.kept,
      c.loop-sheet.invariant,
      ap (greatest_of f) (take_all _ items past
          ∙ c.sheets-sheet-items.ensures.same),
    )
