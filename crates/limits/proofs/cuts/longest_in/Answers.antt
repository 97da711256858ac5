use Rattle.std.proofs.Common.{◌≡◌, List, max, sym, subst, arith}
use Rattle.task_sheet.proofs.Common.{AreSections, CriticalSection}
use Rattle.task_sheet.proofs.Below.{ord_max-is}
use Rattle.task_sheet.proofs.OverheadLaws.{locks-few}
use Rattle.ceilings.proofs.HoldLaws.{greatest-next}
use Rattle.limits.specs.Cuts.{len_on}
use Rattle.limits.proofs.cuts.longest_in.Goals as goal

pub len_on-requires-clause-few : goal.len_on-requires-clause-few
len_on-requires-clause-few c =
    let t = c.args.sheet.now in
    let items = c.sections-section-items.result.now in
    let are : AreSections 0 t.cost items = subst (λ (xs : List CriticalSection). AreSections 0 t.cost xs)
    (sym c.sections-section-items.ensures) c.requires.sections in
    locks-few 0 t.cost items c.loop-section.section-index c.section-item.result are
    c.loop-section-test.true c.section-item.is

pub loop-section-preserved : goal.loop-section-preserved
loop-section-preserved c =
    let f = len_on c.args.lock c.node-node.result in
    let x = c.section-item.result in
    let more : c.max-longest.result ≡ max c.loop-section.longest (f x) =
    omega (arith, c.max-longest.ensures, ord_max-is, c.len_on.ensures) in
    greatest-next f c.sections-section-items.result.now c.loop-section.section-index x
    c.loop-section.longest c.max-longest.result c.loop-section-test.true c.section-item.is
    c.loop-section.invariant more
