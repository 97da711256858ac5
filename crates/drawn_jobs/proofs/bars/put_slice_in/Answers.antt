use Rattle.std.proofs.Common.{◌≡◌, ◌∙◌, ◌++◌, ◌≤◌, ℕ, List, ap, arith, flat_map, length, string_bytes, sym, take}
use Rattle.std.proofs.lemmas.List.{take_all}
use Rattle.task_sheet.specs.Sheet.{CriticalSection}
use Rattle.drawn_jobs.specs.Bars.{dark_text}
use Rattle.frames.proofs.Puts.{put_both, put_item}
use Rattle.drawn_jobs.proofs.bars.put_slice_in.Goals as goal

pub loop-section-preserved : goal.loop-section-preserved
loop-section-preserved c =
    let lane = c.args.lane.now in
    put_item (string_bytes c.put_slice_bar.new.text) (string_bytes c.loop-section.text)
    (string_bytes c.put_dark.new.text)
    (dark_text lane.frame lane.locks.now c.args.executed c.args.slice lane.spot.k lane.row.now)
    c.sections-section-items.result.now c.loop-section.section-index c.section-item.result
    c.loop-section-test.true c.section-item.is c.loop-section.invariant c.in_ok-put_dark.ensures

pub returns : goal.returns
returns c =
    let lane = c.args.lane.now in
    let items : List CriticalSection = c.sections-section-items.result.now in
    let dark : CriticalSection → List ℕ =
    dark_text lane.frame lane.locks.now c.args.executed c.args.slice lane.spot.k lane.row.now in
    let past : length items ≤ c.loop-section.section-index =
    omega (arith, c.loop-section.auto.section-index-end, c.loop-section-test.false) in
    let all : take c.loop-section.section-index items ≡ lane.row.now.sheet.sections =
    take_all c.loop-section.section-index items past ∙ c.sections-section-items.ensures in
    rw (sym c.sees.ensures ∙ c.if-not-sees.false) (put_both _ _ _ _ _ c.in_ok-put_slice_bar.ensures
    (c.loop-section.invariant ∙ ap (λ (xs : List CriticalSection).
    string_bytes c.put_slice_bar.new.text ++ flat_map dark xs) all))
