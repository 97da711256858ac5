use Rattle.std.proofs.Common.{rules, ◌≡◌, ◌+◌, ◌-◌, ◌<◌, ◌≤◌, ◌++◌, [], ◌∷◌, List, length, drop, sym, ◌∙◌, ap}
use Rattle.std.proofs.Common.{subst, arith}
use Rattle.task_sheet.specs.Sheet.{AreSections, CriticalSection}
use Rattle.limits.specs.Numbers.{moved}
use Rattle.limits.proofs.MovedLaws.{at-short, moved-done, moved-more}
use Rattle.limits.proofs.other_values.push_moved.Goals as goal

pub moved_at-at-requires : goal.moved_at-at-requires
moved_at-at-requires c =
    let t = c.args.sheet.now in
    let items = c.sections-sections.result.now in
    let are : AreSections 0 t.cost items = subst (λ (zs : List CriticalSection). AreSections 0
    t.cost zs) (sym c.sections-sections.ensures) c.requires.valid.sections in
    let lt : c.loop-index.index < length items =
    omega (arith, c.loop-index-test.true, c.loop-index.auto.index-end) in
    let short = at-short 0 t.cost items c.loop-index.index c.index-sections-index.result are lt
    c.index-sections-index.is in
    let here = ap (λ (s : CriticalSection). s.at) c.section.view_is in
    omega (
      arith,
      short,
      here,
      c.requires.valid.cost_to,
      c.requires.valid.period_to,
      c.requires.short,
    )

pub loop-index-preserved : goal.loop-index-preserved
loop-index-preserved c =
    let items = c.sections-sections.result.now in
    let x = c.index-sections-index.result in
    let lt : c.loop-index.index < length items =
    omega (arith, c.loop-index-test.true, c.loop-index.auto.index-end) in
    let here : c.section.inside.at ≡ x.at = ap (λ (s : CriticalSection). s.at) c.section.view_is in
    let long : c.section.inside.len ≡ x.len =
    ap (λ (s : CriticalSection). s.len) c.section.view_is in
    let locks : c.in_ok-locks.locks.items ≡ x.locks = search rules in
    let y : CriticalSection = record {
      locks = c.in_ok-locks.locks.items;
      at = c.moved_at-at.result;
      len = c.section.inside.len;
    } in
    let made : y ≡ record x { at = c.moved_at-at.result } =
    λ j. record { locks = locks j; at = c.moved_at-at.result; len = long j } in
    let pushed : c.push.new.self.items ≡ c.loop-index.others.items ++ y ∷ [] = search rules in
    let left : c.saturating_sub-left.result ≡ c.loop-index.left - 1 =
    omega (arith, c.saturating_sub-left.ensures) in
    moved-more items c.loop-index.index x y c.loop-index.left c.saturating_sub-left.result
    c.args.more c.args.less c.moved_at-at.result c.loop-index.others.items c.push.new.self.items _ lt
    c.index-sections-index.is (λ none. c.moved_at-at.ensures.none none ∙ here)
    (λ some. c.moved_at-at.ensures.some some ∙ ap (λ a. a + c.args.more - c.args.less) here)
    made left pushed c.loop-index.invariant

pub returns : goal.returns
returns c =
    let items = c.sections-sections.result.now in
    let past : length items ≤ c.loop-index.index =
    omega (arith, c.loop-index-test.false, c.loop-index.auto.index-end) in
    moved-done items c.loop-index.index c.loop-index.left c.args.more c.args.less
    c.loop-index.others.items _ past c.loop-index.invariant
    ∙ ap (λ (zs : List CriticalSection). c.args.others.now.items
    ++ moved c.args.along c.args.more c.args.less (drop c.args.from zs)) c.sections-sections.ensures
