use Rattle.std.proofs.Common.{rules, ◌≡◌, ◌+◌, ◌-◌, ◌*◌, ◌++◌, ◌∷◌, [], length, ap, arith}
use Rattle.task_sheet.proofs.Common.{CriticalSection, calls}
use Rattle.task_sheet.proofs.OverheadLaws.{calls-more}
use Rattle.overheads.specs.Padding.{padded_section}
use Rattle.overheads.proofs.PaddedSections.{sections-step, section-fits}
use Rattle.overheads.proofs.padding.padded_sections.Goals as goal

pub overflow_add-at : goal.overflow_add-at
overflow_add-at c =
    let fits = section-fits c.args.node c.args.sheet.now c.sections-sections.result.now
    c.loop-section.section-index c.section-item.result c.loop-section.before c.requires.valid
    c.requires.within
    c.sections-sections.ensures c.loop-section-test.true c.section-item.is
    c.loop-section.invariant.before in
    omega (arith, fits, ap (λ (s : CriticalSection). s.at) c.section.view_is)

pub overflow_add-len : goal.overflow_add-len
overflow_add-len c =
    let x = c.section-item.result in
    let fits = section-fits c.args.node c.args.sheet.now c.sections-sections.result.now
    c.loop-section.section-index x c.loop-section.before c.requires.valid c.requires.within
    c.sections-sections.ensures c.loop-section-test.true c.section-item.is
    c.loop-section.invariant.before in
    let count : c.len.result ≡ length x.locks = search rules in
    let time : c.args.node.lock * c.len.result ≡ calls c.args.node x =
    ap (λ n. c.args.node.lock * n) count in
    omega (arith, fits, time, ap (λ (s : CriticalSection). s.len) c.section.view_is)

pub loop-section-preserved : goal.loop-section-preserved
loop-section-preserved c =
    let node = c.args.node in
    let items = c.sections-sections.result.now in
    let i = c.loop-section.section-index in
    let x = c.section-item.result in
    let before = c.loop-section.before in
    let inv = c.loop-section.invariant in
    let count : c.len.result ≡ length x.locks = search rules in
    let time : node.lock * c.len.result ≡ calls node x = ap (λ n. node.lock * n) count in
    let at : c.section.inside.at ≡ x.at = ap (λ (s : CriticalSection). s.at) c.section.view_is in
    let len : c.section.inside.len ≡ x.len =
    ap (λ (s : CriticalSection). s.len) c.section.view_is in
    let locks : c.in_ok-locks.locks.items ≡ x.locks = search rules in
    let y : CriticalSection = record {
      locks = c.in_ok-locks.locks.items;
      at =
          c.section.inside.at + before;
      len = c.section.inside.len + node.lock * c.len.result;
    } in
    let pads : y ≡ padded_section node before x = λ i. record {
      locks = locks i;
      at = at i + before;
      len = len i + time i;
    } in
    let pushed : c.push.new.self.items ≡ c.loop-section.others.items ++ y ∷ [] = search rules in
    record {
      before = omega (
        arith,
        inv.before,
        time,
        calls-more node items i x c.loop-section-test.true
            c.section-item.is,
      );
      items = sections-step node (node.job - node.release) items i x y before
          c.loop-section.others.items c.push.new.self.items c.loop-section-test.true
          c.section-item.is inv.before inv.items pads pushed;
    }
