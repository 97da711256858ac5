use Rattle.std.proofs.Common.{sym, ◌∙◌, ap, arith, inl, inr, count_by, ◌==◌, refl}
use Rattle.std.proofs.lemmas.Bool.{cases_eq}
use Rattle.ceiling_kernel.proofs.levels.are_once.Goals as goal

pub returns-then-times-ne1 : goal.returns-then-times-ne1
returns-then-times-ne1 c = (
  λ e. absurd (cc),
  λ h.
      absurd (c.if-times-ne1.true (c.times.ensures ∙ h c.loop-index.index c.loop-index-test.true)),
)

pub loop-index-preserved : goal.loop-index-preserved
loop-index-preserved c = λ index lt. elim (cases_eq index c.loop-index.index) [
  | inl same ↦ ap (λ k. count_by (λ x. x == k) c.args.order.now) same
      ∙ (sym c.times.ensures ∙ c.if-times-ne1.false)
  | inr differ ↦ c.loop-index.invariant index (omega arith)
]

pub returns : goal.returns
returns c =
    (λ e index lt. c.loop-index.invariant index (omega (arith, c.loop-index-test.false)), λ h. refl)
