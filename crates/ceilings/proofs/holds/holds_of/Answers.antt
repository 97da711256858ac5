use Rattle.std.proofs.Common.{ℕ, ◌≡◌, ◌<◌, length, cond, add-one, ap, ◌∙◌, arith}
use Rattle.task_sheet.proofs.Common.{task_at, indexes_of, longest_reached}
use Rattle.task_sheet.proofs.Below.{greatest_of-push}
use Rattle.task_sheet.proofs.TaskLaws.{task_read}
use Rattle.ceilings.specs.Holds.{longest_held, longest_from}
use Rattle.ceilings.proofs.holds.holds_of.Goals as goal

pub loop-index-preserved : goal.loop-index-preserved
loop-index-preserved c = λ members.
    let U = c.args.set.now in
    let n = c.loop-index.index in
    let M = indexes_of members in
    let within : n < length U = rw (c.sheets-sheet-items.ensures.same) at c.loop-index-test.true in
    let is = task_read U c.sheets-sheet-items.result.now n c.sheet-item.result
    c.sheets-sheet-items.ensures.same within c.sheet-item.is in
    let f : ℕ → ℕ = λ k. cond (M k) 0 (longest_reached U M (task_at U k)) in
    let here : longest_from members c.new.result ≡ f n =
    ap (longest_from members) c.new.ensures ∙ ap (λ m. cond (M n) 0 m)
    (c.in_ok-holds.ensures U c.requires members ∙ ap (longest_reached U M) is) in
    let next = ap (λ ts. longest_held ts members) c.in_ok-push.ensures.items
    ∙ greatest_of-push (longest_from members) c.loop-index.tasks.items c.new.result in
    rw add-one (omega (arith, c.loop-index.invariant members, next, here))

pub returns : goal.returns
returns c = λ members.
    let all : c.loop-index.index ≡ length c.sheets-sheet-items.result.now = omega arith in
    rw (all ∙ ap (λ V. length V) c.sheets-sheet-items.ensures.same)
    at (c.loop-index.invariant members)
