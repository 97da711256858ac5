use Rattle.std.proofs.Common.{rules, ◌≡◌, ◌-◌, ◌++◌, ◌∷◌, [], List, length, ap}
use Rattle.std.proofs.Common.{arith}
use Rattle.task_sheet.proofs.Common.{CriticalSection, calls}
use Rattle.task_sheet.proofs.OverheadLaws.{calls-more}
use Rattle.limits.specs.Written.{written_section}
use Rattle.limits.proofs.WrittenLaws.{calls-taken, sections-step}
use Rattle.limits.proofs.unpadded.written_sections.Goals as goal

pub overflow_mul-time : goal.overflow_mul-time
overflow_mul-time c =
    let count : c.len.result ≡ length c.section-item.result.locks = search rules in
    let taken = calls-taken c.args.node c.args.sheet.now c.sections-sections.result.now
    c.loop-section.section-index c.section-item.result c.len.result c.requires.limits
    c.requires.valid c.sections-sections.ensures c.loop-section-test.true c.section-item.is count in
    omega (arith, taken.0, taken.1)

pub overflow_add-before : goal.overflow_add-before
overflow_add-before c =
    let count : c.len.result ≡ length c.section-item.result.locks = search rules in
    let taken = calls-taken c.args.node c.args.sheet.now c.sections-sections.result.now
    c.loop-section.section-index c.section-item.result c.len.result c.requires.limits
    c.requires.valid c.sections-sections.ensures c.loop-section-test.true c.section-item.is count in
    omega (
      arith,
      taken.0,
      taken.1,
      c.loop-section.invariant.short,
      c.requires.valid.few,
      ap (λ (xs : List CriticalSection). length xs) c.sections-sections.ensures,
      c.loop-section-test.true,
    )

pub loop-section-preserved : goal.loop-section-preserved
loop-section-preserved c =
    let count : c.len.result ≡ length c.section-item.result.locks = search rules in
    let taken = calls-taken c.args.node c.args.sheet.now c.sections-sections.result.now
    c.loop-section.section-index c.section-item.result c.len.result c.requires.limits
    c.requires.valid c.sections-sections.ensures c.loop-section-test.true c.section-item.is count in
    let node = c.args.node in
    let items = c.sections-sections.result.now in
    let i = c.loop-section.section-index in
    let x = c.section-item.result in
    let before = c.loop-section.before in
    let inv = c.loop-section.invariant in
    let time = taken.0 in
    let here : c.section.inside.at ≡ x.at = ap (λ (s : CriticalSection). s.at) c.section.view_is in
    let long : c.section.inside.len ≡ x.len =
    ap (λ (s : CriticalSection). s.len) c.section.view_is in
    let locks : c.in_ok-locks.locks.items ≡ x.locks = search rules in
    let at : c.saturating_sub-at.result ≡ x.at - before =
    omega (arith, c.saturating_sub-at.ensures, here) in
    let len : c.saturating_sub-len.result ≡ x.len - calls node x =
    omega (arith, c.saturating_sub-len.ensures, long, time) in
    let y : CriticalSection = record {
      locks = c.in_ok-locks.locks.items;
      at = c.saturating_sub-at.result;
      len = c.saturating_sub-len.result;
    } in
    let writes : y ≡ written_section node before x =
    λ j. record { locks = locks j; at = at j; len = len j } in
    let pushed : c.push.new.self.items ≡ c.loop-section.others.items ++ y ∷ [] = search rules in
    record {
      before = omega (
        arith,
        inv.before,
        time,
        calls-more node items i x c.loop-section-test.true
            c.section-item.is,
      );
      items = sections-step node (node.job - node.release) items i x y before
          c.loop-section.others.items c.push.new.self.items c.loop-section-test.true
          c.section-item.is inv.before inv.items writes pushed;
      short = omega (arith, inv.short, time, taken.1);
    }
