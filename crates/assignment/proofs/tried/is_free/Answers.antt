use Rattle.std.proofs.Common.{Bool, true, false, not, IsTrue, IsFalse, refl, sym, ◌∙◌, ap}
use Rattle.task_sheet.proofs.Common.{Indexes, indexes_of, must_outrank_any}
use Rattle.task_sheet.proofs.MembersIndexes.{indexes_of-remove}
use Rattle.assignment.proofs.AskLaws.{remove-part}
use Rattle.assignment.proofs.tried.is_free.Goals as goal

false-from_not : (b : Bool) → IsTrue (not b) → IsFalse b
false-from_not true h = sym h
false-from_not false h = refl

not-from_false : (b : Bool) → IsFalse b → IsTrue (not b)
not-from_false true h = sym h
not-from_false false h = refl

pub must_outrank_any-requires-clause-part : goal.must_outrank_any-requires-clause-part
must_outrank_any-requires-clause-part c =
    rw c.without.ensures (remove-part c.args.set.now c.args.left c.args.task c.requires.part)

pub returns-then-has : goal.returns-then-has
returns-then-has c =
    let U = c.args.set.now in
    let i = c.args.task in
    let less = ap indexes_of c.without.ensures ∙ indexes_of-remove c.args.left i in
    let same = c.must_outrank_any.ensures ∙ ap (λ (X : Indexes). must_outrank_any U i X) less in (
      λ yes. (sym c.has.ensures ∙ c.if-has.true, sym same ∙ false-from_not c.must_outrank_any.result yes),
      λ free. not-from_false c.must_outrank_any.result (same ∙ free.1),
    )
