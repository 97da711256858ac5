use Rattle.std.proofs.Common.{◌≡◌, ◌∙◌, ◌<◌, ◌≤◌, ℕ, List, length, All, arith}
use Rattle.task_sheet.proofs.Common.{Task, IsOrder}
use Rattle.ceiling_kernel.proofs.OrderLaws.{order_iff, order_length}
use Rattle.settings.proofs.text.settings_text.Goals as goal

-- the order of a set of at most 32 tasks
short : (U : List Task) (tasks order : List ℕ) → IsOrder U tasks → length U ≤ 32 → order ≡ tasks
    → All (λ index. index < 32) order × (length order ≤ 32)
short U tasks order each few is =
    let same : IsOrder U order = rw is each in
    let all = (order_iff (length U) order).1 same in
    (λ k d lt. omega (arith, few, all.0 k d lt), omega (arith, few, order_length (length U) order same))

pub push_threads-requires : goal.push_threads-requires
push_threads-requires c = (short c.args.set.now _ c.deref.result.now c.requires
    c.in_ok-table.ensures.few (c.deref.ensures.value ∙ c.in_ok-order.ensures)).1

pub push_mutexes-requires-clause-within : goal.push_mutexes-requires-clause-within
push_mutexes-requires-clause-within c = (short c.args.set.now _ c.deref-2.result.now c.requires
    c.in_ok-table.ensures.few (c.deref-2.ensures.value ∙ c.in_ok-order.ensures)).0

pub push_mutexes-requires-clause-few : goal.push_mutexes-requires-clause-few
push_mutexes-requires-clause-few c = (short c.args.set.now _ c.deref-2.result.now c.requires
    c.in_ok-table.ensures.few (c.deref-2.ensures.value ∙ c.in_ok-order.ensures)).1
