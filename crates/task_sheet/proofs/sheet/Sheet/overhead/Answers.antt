use Rattle.std.proofs.Common.{rules, ◌≡◌, ◌*◌, ◌≤◌, length, ap, arith}
use Rattle.task_sheet.proofs.Common.{Task, calls}
use Rattle.task_sheet.proofs.OverheadLaws.{calls-more, calls-fit, locks-few}
use Rattle.task_sheet.proofs.sheet.Sheet.overhead.Goals as goal

-- what the calls on the section's locks take
taken : (c : goal.After-len)
    → (c.self.inside.node.lock * c.len.result ≡ calls c.self.inside.node c.section-item.result)
    × (calls c.self.inside.node c.section-item.result ≤ 40000000)
taken c =
    let x = c.section-item.result in
    let node = c.self.inside.node in
    let count : c.len.result ≡ length x.locks = search rules in
    let few = locks-few 0 c.self.inside.cost c.deref-section-items.result.now
    c.loop-section.section-index x (search rules) c.loop-section-test.true c.section-item.is in
    (ap (λ n. node.lock * n) count, calls-fit node x c.self.invariant.overheads.lock few)

pub overflow_mul-overhead : goal.overflow_mul-overhead
overflow_mul-overhead c = omega (arith, (taken c).0, (taken c).1)

pub overflow_add-overhead : goal.overflow_add-overhead
overflow_add-overhead c = omega (
  arith,
  (taken c).0,
  (taken c).1,
  c.loop-section.invariant.short,
  c.self.invariant.few,
  c.loop-section-test.true,
)

pub loop-section-preserved : goal.loop-section-preserved
loop-section-preserved c =
    let x = c.section-item.result in
    let time = (taken c).0 in
    let same = ap (λ (t : Task). calls t.node x) c.self.view_is in
    let more = calls-more c.args.self.now.node c.deref-section-items.result.now
    c.loop-section.section-index x c.loop-section-test.true c.section-item.is in
    record {
      total = omega (arith, time, same, more, c.loop-section.invariant.total);
      short = omega (arith, time, (taken c).1, c.loop-section.invariant.short);
    }
