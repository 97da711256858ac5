use Rattle.std.proofs.Common.{◌≡◌, ◌∙◌, ℕ, Bool, true, None, subst, sym, arith}
use Rattle.diff.specs.Whole.{first_below, is_called}
use Rattle.diff.proofs.FirstLaws.{first_below-at}
use Rattle.diff.proofs.whole.first_called.Goals as goal

pub returns-then-branch : goal.returns-then-branch
returns-then-branch c =
    let test : ℕ → Bool =
    is_called c.args.side.now.owners.now c.args.side.now.set.now c.args.name.now in
    let so : test c.loop-place.place ≡ true =
    sym c.in_ok-is_called.ensures ∙ c.if-branch.true in
    sym (first_below-at 8 test c.loop-place.place c.loop-place-test.true so c.loop-place.invariant)

pub returns : goal.returns
returns c =
    let test : ℕ → Bool =
    is_called c.args.side.now.owners.now c.args.side.now.set.now c.args.name.now in
    let at : c.loop-place.place ≡ 8 =
    omega (arith, c.loop-place-test.false, c.loop-place.auto.place-end) in
    sym (subst (λ (n : ℕ). first_below n test ≡ None) at c.loop-place.invariant)
