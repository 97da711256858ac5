use Rattle.std.proofs.Common.{◌+◌, add-one, refl, sym, ◌∙◌, ap, arith}
use Rattle.task_sheet.specs.Sheet.{CriticalSection}
use Rattle.limits.specs.Numbers.{section_at}
use Rattle.limits.proofs.SpanLaws.{section_read, begin_of-room, cost-room}
use Rattle.limits.proofs.spans.room_end.Goals as goal

pub returns-then-place-sections : goal.returns-then-place-sections
returns-then-place-sections c =
    let xs = c.args.sections.now in
    let k = c.args.place in
    let read = section_read xs xs (k + 1) c.index-sections-place.result refl
    (omega (arith, c.if-place-sections.true)) c.index-sections-place.is in
    ap (λ (s : CriticalSection). s.at) c.next.view_is
    ∙ ap (λ (s : CriticalSection). s.at) read
    ∙ ap (λ j. (section_at xs j).at) (add-one k)
    ∙ sym (begin_of-room c.args.cost xs k (omega (arith, c.if-place-sections.true)))

pub returns-else-place-sections : goal.returns-else-place-sections
returns-else-place-sections c = sym (cost-room c.args.cost c.args.sections.now c.args.place
    (omega (arith, c.if-place-sections.false)))
