use Rattle.std.proofs.Common.{◌≡◌, ◌∙◌, ◌+◌, ◌-◌, ℕ, suc, length, take, drop, ap, arith, eq-eqb, sym}
use Rattle.std.proofs.lemmas.Grind.{common_steps}
use Rattle.two_input_commands.proofs.BesideTexts.{list_up_to, list_whole, new_behind, new_none}
use Rattle.two_input_commands.proofs.beside.parts_of.Goals as goal

pub returns-then-b-eq0-clause-list : goal.returns-then-b-eq0-clause-list
returns-then-b-eq0-clause-list c =
    c.split_at.ensures.front ∙ sym (list_up_to c.args.text.now c.loop-i.i c.loop-i-test.true
    c.loop-i.invariant (eq-eqb _ _ c.if-b-eq0.true))

pub returns-then-b-eq0-clause-new : goal.returns-then-b-eq0-clause-new
returns-then-b-eq0-clause-new c =
    let i = c.loop-i.i in
    let rest : take (length c.split_at.result.1.now - 1) (drop 1 c.split_at.result.1.now)
    ≡ drop (i + 1) c.args.text.now = grind (arith, common_steps) in
    let next : i + 1 ≡ suc i = omega arith in
    rest ∙ ap (λ (k : ℕ). drop k c.args.text.now) next
    ∙ sym (new_behind c.args.text.now i c.loop-i-test.true c.loop-i.invariant
    (eq-eqb _ _ c.if-b-eq0.true))

pub returns-clause-list : goal.returns-clause-list
returns-clause-list c =
    sym (list_whole c.args.text.now
    (λ k lt. c.loop-i.invariant k (omega (arith, lt, c.loop-i-test.false))))

pub returns-clause-new : goal.returns-clause-new
returns-clause-new c =
    sym (new_none c.args.text.now
    (λ k lt. c.loop-i.invariant k (omega (arith, lt, c.loop-i-test.false))))
