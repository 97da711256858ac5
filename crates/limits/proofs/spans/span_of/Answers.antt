use Rattle.std.proofs.Common.{◌+◌, ◌-◌, ◌<◌, List, length, sym, ap, subst, arith}
use Rattle.task_sheet.specs.declared.node.Interrupt.{Interrupt}
use Rattle.task_sheet.proofs.Below.{ord_max-is}
use Rattle.limits.specs.Numbers.{HasNumber, IsSpan, interrupt_at}
use Rattle.limits.proofs.SpanLaws.{IsSpan-cost, IsSpan-period, IsSpan-deadline, IsSpan-jitter}
use Rattle.limits.proofs.SpanLaws.{IsSpan-len}
use Rattle.limits.proofs.InterruptLaws.{IsSpan-interrupt_cost, IsSpan-interrupt_period}
use Rattle.limits.proofs.spans.span_of.Goals as goal

pub returns-in-Cost-clause-span : goal.returns-in-Cost-clause-span
returns-in-Cost-clause-span c =
    let t = c.args.sheet.now in
    subst (λ n. IsSpan t n c.max-easiest.result (c.period.result - c.max-easiest.result))
    (sym c.in-Cost.is)
    (IsSpan-cost t _ _ c.requires.valid (omega (
      arith,
      c.max-easiest.ensures,
      ord_max-is,
      c.last_end.ensures.is,
    )) (omega (arith, c.period.ensures)))

pub returns-in-Period-clause-span : goal.returns-in-Period-clause-span
returns-in-Period-clause-span c =
    let t = c.args.sheet.now in
    subst (λ n. IsSpan t n 10000000 (10000000 - c.max-least.result)) (sym c.in-Period.is)
    (IsSpan-period t c.max-least.result _ c.requires.valid (omega (
      arith,
      c.max-least.ensures,
      c.max.ensures,
      ord_max-is,
      c.cost.ensures,
      c.jitter.ensures,
    )) (omega arith))

pub returns-in-Deadline-clause-span : goal.returns-in-Deadline-clause-span
returns-in-Deadline-clause-span c =
    let t = c.args.sheet.now in
    subst (λ n. IsSpan t n 10000000 (10000000 - (c.jitter-in-Deadline.result + 1)))
    (sym c.in-Deadline.is)
    (IsSpan-deadline t _ c.requires.valid (omega (arith, c.jitter-in-Deadline.ensures)))

pub returns-in-Jitter-clause-span : goal.returns-in-Jitter-clause-span
returns-in-Jitter-clause-span c =
    let t = c.args.sheet.now in
    subst (λ n. IsSpan t n 0 (c.deadline.result - 1)) (sym c.in-Jitter.is)
    (IsSpan-jitter t _ c.requires.valid (omega (arith, c.deadline.ensures)))

pub most_len-requires-clause-place : goal.most_len-requires-clause-place
most_len-requires-clause-place c = subst (λ n. HasNumber c.args.sheet.now n) c.in-Len.is c.requires.has

pub returns-in-Len-clause-span : goal.returns-in-Len-clause-span
returns-in-Len-clause-span c =
    let t = c.args.sheet.now in
    let inside = subst (λ n. HasNumber t n) c.in-Len.is c.requires.has in
    subst (λ n. IsSpan t n 1 (c.most_len.result - 1)) (sym c.in-Len.is)
    (IsSpan-len t c.in-Len.place c.in-Len.along _ c.requires.valid inside
    (omega (arith, c.most_len.ensures.is)))

pub returns-in-InterruptCost-clause-span : goal.returns-in-InterruptCost-clause-span
returns-in-InterruptCost-clause-span c =
    let t = c.args.sheet.now in
    let k = c.in-InterruptCost.place in
    let inside : k < length t.interrupts =
    subst (λ n. HasNumber t n) c.in-InterruptCost.is c.requires.has in
    subst (λ n. IsSpan t n 0 (interrupt_at c.interrupts.result.now k).period)
    (sym c.in-InterruptCost.is) (IsSpan-interrupt_cost t k _ c.requires.valid inside
    (ap (λ (xs : List Interrupt). (interrupt_at xs k).period) c.interrupts.ensures.same))

pub returns-in-InterruptPeriod-clause-span : goal.returns-in-InterruptPeriod-clause-span
returns-in-InterruptPeriod-clause-span c =
    let t = c.args.sheet.now in
    let k = c.in-InterruptPeriod.place in
    let inside : k < length t.interrupts =
    subst (λ n. HasNumber t n) c.in-InterruptPeriod.is c.requires.has in
    subst (λ n. IsSpan t n 10000000 (10000000 - c.max-in-InterruptPeriod.result))
    (sym c.in-InterruptPeriod.is)
    (IsSpan-interrupt_period t k c.max-in-InterruptPeriod.result _ c.requires.valid inside (omega (
      arith,
      c.max-in-InterruptPeriod.ensures,
      ord_max-is,
      ap (λ (xs : List Interrupt). (interrupt_at xs k).cost)
          c.interrupts-in-InterruptPeriod.ensures.same,
    )) (omega arith))
