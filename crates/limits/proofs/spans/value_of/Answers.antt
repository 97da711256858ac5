use Rattle.std.proofs.Common.{◌≡◌, ◌+◌, ◌<◌, List, length, sym, ◌∙◌, ap, subst, arith}
use Rattle.task_sheet.specs.declared.node.Interrupt.{Interrupt}
use Rattle.task_sheet.specs.Sheet.{CriticalSection}
use Rattle.limits.specs.Numbers.{HasNumber, interrupt_at, value_of}
use Rattle.limits.proofs.SpanLaws.{section_read}
use Rattle.limits.proofs.spans.value_of.Goals as goal

pub returns-in-Len : goal.returns-in-Len
returns-in-Len c =
    let t = c.args.sheet.now in
    let k = c.in-Len.place in
    let has : k + c.in-Len.along < length t.sections = subst (λ n. HasNumber t n) c.in-Len.is c.requires in
    let inside : k < length t.sections = omega (arith, has) in
    let read = section_read t.sections c.sections.result.now k c.index-sections-place.result
    c.sections.ensures inside c.index-sections-place.is in
    subst (λ n. c.section.inside.len ≡ value_of n t) (sym c.in-Len.is)
    (ap (λ (s : CriticalSection). s.len) c.section.view_is
    ∙ ap (λ (s : CriticalSection). s.len) read)

pub returns-in-InterruptCost : goal.returns-in-InterruptCost
returns-in-InterruptCost c =
    let t = c.args.sheet.now in
    let k = c.in-InterruptCost.place in
    subst (λ n. (interrupt_at c.interrupts.result.now k).cost ≡ value_of n t)
    (sym c.in-InterruptCost.is)
    (ap (λ (xs : List Interrupt). (interrupt_at xs k).cost) c.interrupts.ensures.same)

pub returns-in-InterruptPeriod : goal.returns-in-InterruptPeriod
returns-in-InterruptPeriod c =
    let t = c.args.sheet.now in
    let k = c.in-InterruptPeriod.place in
    subst (λ n. (interrupt_at c.interrupts-in-InterruptPeriod.result.now k).period ≡ value_of n t)
    (sym c.in-InterruptPeriod.is)
    (ap (λ (xs : List Interrupt). (interrupt_at xs k).period) c.interrupts-in-InterruptPeriod.ensures.same)
