use Rattle.std.proofs.Common.{◌≡◌, ℕ, ◌+◌, ◌++◌, List, drop, take, slice_set, ◌∙◌, ap}
use Rattle.task_sheet.specs.Sheet.{CriticalSection}
use Rattle.limits.specs.Numbers.{moved, section_at}
use Rattle.limits.proofs.MovedLaws.{len-made}
use Rattle.limits.proofs.SpanLaws.{section_read}
use Rattle.limits.proofs.other_values.with_len.Goals as goal

pub returns : goal.returns
returns c =
    let t = c.args.sheet.now in
    let k = c.args.place in
    let read = section_read t.sections c.sections-sections.result.now k
    c.index-sections-place.result c.sections-sections.ensures c.requires.place
    c.index-sections-place.is in
    let less : c.section.inside.len ≡ (section_at t.sections k).len =
    ap (λ (s : CriticalSection). s.len) (c.section.view_is ∙ read) in
    let front : List CriticalSection → List CriticalSection = λ (zs : List CriticalSection). slice_set (take (k + 1) zs) k
    (record (section_at (take (k + 1) zs) k) { len = c.args.len }) in
    let behind : ℕ → List CriticalSection = λ n. moved c.args.along c.args.len n (drop (k + 1) t.sections) in
    c.in_ok-push_moved.ensures
    ∙ ap (λ (l : List CriticalSection). l ++ behind c.section.inside.len)
    (c.in_ok-others.ensures ∙ ap front c.sections-sections.ensures)
    ∙ ap (λ n. front t.sections ++ behind n) less
    ∙ len-made t.sections k c.args.along c.args.len c.requires.place
