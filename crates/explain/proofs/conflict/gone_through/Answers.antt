use Rattle.std.proofs.Common.{inl, inr, refl, ◌∙◌, ap, sym}
use Rattle.task_sheet.specs.Indexes.{Indexes, indexes_of}
use Rattle.task_sheet.proofs.IndexLaws.{without-parts}
use Rattle.task_sheet.proofs.MembersIndexes.{indexes_of-remove}
use Rattle.explain.proofs.conflict.gone_through.Goals as goal

pub greatest_within-requires : goal.greatest_within-requires
greatest_within-requires c = λ k h.
    let less = ap indexes_of c.without.ensures ∙ indexes_of-remove c.args.tasks c.args.task in
    c.requires.part k (without-parts (indexes_of c.args.tasks) c.args.task k
    (ap (λ (X : Indexes). X k) (sym less) ∙ h)).0

pub returns-in-Some : goal.returns-in-Some
returns-in-Some c =
    let less = ap indexes_of c.without.ensures ∙ indexes_of-remove c.args.tasks c.args.task in
    inl (sym c.has.ensures ∙ c.if-not-has.false, rw less at c.in-Some.ensures.some)

pub returns-in-None : goal.returns-in-None
returns-in-None c =
    let less = ap indexes_of c.without.ensures ∙ indexes_of-remove c.args.tasks c.args.task in
    inr (λ member. rw less at c.in-None.ensures.none, refl)
