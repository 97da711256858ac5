use Rattle.std.proofs.Common.{◌≡◌, ◌+◌, ◌-◌, ◌<◌, List, length, ◌∙◌, ap, arith}
use Rattle.task_sheet.specs.Sheet.{CriticalSection}
use Rattle.limits.specs.Numbers.{section_at}
use Rattle.limits.specs.Rooms.{end_of, most_len, room_end}
use Rattle.limits.proofs.SpanLaws.{end-room, most_len-is, most_len-own, section_read}
use Rattle.limits.proofs.spans.most_len.Goals as goal

module _ (c : goal.After-last) where
  ends : c.last.inside.at + c.last.inside.len
      ≡ end_of c.args.sheet.now.sections (c.args.place + c.args.along)
  ends =
      let t = c.args.sheet.now in
      let read = section_read t.sections c.sections-sections.result.now
      (c.args.place + c.args.along) c.index-sections-place-2.result c.sections-sections.ensures
      c.requires.place c.index-sections-place-2.is in
      ap (λ (s : CriticalSection). s.at + s.len) (c.last.view_is ∙ read)

  room : c.room_end.result
      ≡ room_end c.args.sheet.now.cost c.args.sheet.now.sections (c.args.place + c.args.along)
  room =
      let m = c.args.place + c.args.along in
      c.room_end.ensures ∙ ap (λ n. room_end n c.sections-sections.result.now m) c.cost.ensures
      ∙ ap (λ (zs : List CriticalSection). room_end c.args.sheet.now.cost zs m)
      c.sections-sections.ensures

  value : c.section.inside.len + (c.room_end.result - (c.last.inside.at + c.last.inside.len))
      ≡ most_len c.args.sheet.now.cost c.args.sheet.now.sections c.args.place c.args.along
  value =
      let t = c.args.sheet.now in
      let k = c.args.place in
      let inside : k < length t.sections = omega (arith, c.requires.place) in
      let read = section_read t.sections c.sections-sections.result.now k
      c.index-sections-place.result c.sections-sections.ensures inside c.index-sections-place.is in
      let len : c.section.inside.len ≡ (section_at t.sections k).len =
      ap (λ (s : CriticalSection). s.len) (c.section.view_is ∙ read) in
      omega (arith, len, ends, room, most_len-is t.cost t.sections k c.args.along c.requires.place)

pub overflow_add-result : goal.overflow_add-result
overflow_add-result c =
    let t = c.args.sheet.now in
    let last = end-room 0 t.cost t.sections (c.args.place + c.args.along) c.requires.place
    c.requires.valid.sections in
    omega (arith, ends c, last.0, last.1, c.requires.valid.cost_to, c.requires.valid.period_to)

pub overflow_sub-result : goal.overflow_sub-result
overflow_sub-result c =
    let t = c.args.sheet.now in
    let last = end-room 0 t.cost t.sections (c.args.place + c.args.along) c.requires.place
    c.requires.valid.sections in
    omega (arith, ends c, room c, last.0)

pub overflow_add-result-2 : goal.overflow_add-result-2
overflow_add-result-2 c =
    let t = c.args.sheet.now in
    let own = most_len-own 0 t.cost t.sections c.args.place c.args.along c.requires.place
    c.requires.valid.sections in
    omega (arith, value c, own.2, c.requires.valid.cost_to, c.requires.valid.period_to)

pub returns-clause-is : goal.returns-clause-is
returns-clause-is c = value c

pub returns-clause-some : goal.returns-clause-some
returns-clause-some c =
    let t = c.args.sheet.now in
    let own = most_len-own 0 t.cost t.sections c.args.place c.args.along c.requires.place
    c.requires.valid.sections in
    omega (arith, value c, own.0, own.1)

pub returns-clause-short : goal.returns-clause-short
returns-clause-short c =
    let t = c.args.sheet.now in
    let own = most_len-own 0 t.cost t.sections c.args.place c.args.along c.requires.place
    c.requires.valid.sections in
    omega (arith, value c, own.2, c.requires.valid.cost_to, c.requires.valid.period_to)
