use Rattle.std.proofs.Common.{refl}
use Rattle.task_sheet.proofs.MembersIndexes.{indexes_of-empty}
use Rattle.cert_checker.proofs.SeenSteps.{seen-step, seen-stop, seen-end}
use Rattle.cert_checker.proofs.naming.tasks_named.Goals as goal

pub loop-item-init : goal.loop-item-init
loop-item-init g c = λ task gives. rw (c.empty-seen.ensures, indexes_of-empty)
    (record { test = refl; seen_too = λ k. refl })

pub returns-in_err-seen : goal.returns-in_err-seen
returns-in_err-seen g c = λ task gives.
    let named = gives c.item-item.result c.name_of.result
    (record { shown = _; shows = refl; says = record { met = c.name_of.ensures } }) in
    let stopped = seen-stop (c.loop-item.invariant task gives) c.item-item.result c.name_of.result
    c.loop-item-test.true c.item-item.is named (rw c.in_err-seen.was at c.see.ensures) in
    rw c.from_residual.ensures stopped

pub loop-item-preserved : goal.loop-item-preserved
loop-item-preserved g c = λ task gives.
    let named = gives c.item-item.result c.name_of.result
    (record { shown = _; shows = refl; says = record { met = c.name_of.ensures } }) in
    let told = rw c.in_ok-seen.was at c.see.ensures in
    rw told.1 (seen-step (c.loop-item.invariant task gives) c.item-item.result c.name_of.result
    c.loop-item-test.true c.item-item.is named told.0)

pub returns : goal.returns
returns g c = λ task gives. seen-end (c.loop-item.invariant task gives) c.loop-item-test.false
