use Rattle.std.proofs.Common.{subst, arith}
use Rattle.task_sheet.specs.Sheet.{IsValidSheet}
use Rattle.limits.specs.Numbers.{HasNumber, with_number}
use Rattle.limits.proofs.SpanLaws.{most_len-own, sections-room}
use Rattle.limits.proofs.other_values.with_number.Goals as goal

pub with_len-requires-clause-short : goal.with_len-requires-clause-short
with_len-requires-clause-short c =
    let t = c.args.sheet.now in
    let inside = subst (λ n. HasNumber t n) c.in-Len.is c.requires.has in
    let may = subst (λ n. IsValidSheet (with_number n t c.args.value)) c.in-Len.is c.requires.may in
    let room = sections-room 0 t.cost t.sections c.in-Len.place c.in-Len.along c.args.value inside
    c.requires.valid.sections may.sections in
    let own = most_len-own 0 t.cost t.sections c.in-Len.place c.in-Len.along inside
    c.requires.valid.sections in
    omega (arith, room.1, own.2, c.requires.valid.cost_to, c.requires.valid.period_to)
