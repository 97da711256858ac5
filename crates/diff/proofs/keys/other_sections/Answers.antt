use Rattle.std.proofs.Common.{◌≡◌, ℕ, false, subst, sym, arith}
use Rattle.task_sheet.specs.Indexes.{some_below}
use Rattle.task_sheet.proofs.Below.{some_below-at}
use Rattle.diff.specs.Keys.{other_section}
use Rattle.diff.proofs.keys.other_sections.Goals as goal

pub returns-then-other_section : goal.returns-then-other_section
returns-then-other_section c =
    sym (some_below-at 8 (other_section c.args.old.now c.args.new.now) c.loop-place.place
    c.loop-place-test.true (sym c.if-other_section.ensures))

pub returns : goal.returns
returns c =
    let at : c.loop-place.place ≡ 8 =
    omega (arith, c.loop-place-test.false, c.loop-place.auto.place-end) in
    sym (subst (λ (n : ℕ). some_below n (other_section c.args.old.now c.args.new.now) ≡ false) at
    c.loop-place.invariant)
