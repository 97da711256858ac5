use Rattle.std.proofs.Common.{◌≡◌, ◌∙◌, ℕ, ◌+◌, ◌<◌, List, Bool, true, false, ap, arith, drop}
use Rattle.std.proofs.Common.{get_or, ◌∷◌}
use Rattle.std.proofs.Common.{length, sym}
use Rattle.std.specs.Prelude.{◌-◌, nat_lt, if◌then◌else◌}
use Rattle.std.proofs.lemmas.Bool.{lt-ltb, le-ltb}
use Rattle.std.proofs.lemmas.List.{at_drop_all, at_drop_more}
use Rattle.drawn_jobs.specs.Sections.{fits}
use Rattle.drawn_jobs.proofs.ticks.fits.Goals as goal

at : (left : ℕ) (names : List (List ℕ)) (i : ℕ) (name : List ℕ) (room : Bool) → i < length names
    → name ≡ get_or names i name → nat_lt (length name) left ≡ room → fits left (drop i names)
    ≡ (if room then fits (left - length name - 1) (drop (i + 1) names) else false)
at left names i name room lt is tested = at_drop_more (fits left) names i name lt
    ∙ ap (λ (n : List ℕ). fits left (n ∷ drop (i + 1) names)) (sym is)
    ∙ ap (λ (b : Bool). if b then fits (left - length name - 1) (drop (i + 1) names) else false)
    tested

pub loop-name-preserved : goal.loop-name-preserved
loop-name-preserved c =
    let letters = ap (λ (name : List ℕ). length name) c.bytes.ensures.same in
    let less : c.loop-name.left - (length c.bytes.result.now + 1)
    ≡ c.loop-name.left - length c.name-item.result - 1 = omega (arith, letters) in
    ap (λ (n : ℕ). fits n (drop (c.loop-name.name-index + 1) c.args.names.now)) less
    ∙ sym (at c.loop-name.left c.args.names.now c.loop-name.name-index c.name-item.result true
    c.loop-name-test.true c.name-item.is
    (lt-ltb _ _ (omega (arith, letters, c.if-letters-left.false)))) ∙ c.loop-name.invariant

pub returns-then-letters-left : goal.returns-then-letters-left
returns-then-letters-left c =
    let letters = ap (λ (name : List ℕ). length name) c.bytes.ensures.same in
    sym (at c.loop-name.left c.args.names.now c.loop-name.name-index c.name-item.result false
    c.loop-name-test.true c.name-item.is
    (le-ltb _ _ (omega (arith, letters, c.if-letters-left.true)))) ∙ c.loop-name.invariant

pub returns : goal.returns
returns c = sym (at_drop_all (fits c.loop-name.left) c.args.names.now c.loop-name.name-index
    c.loop-name-test.false) ∙ c.loop-name.invariant
