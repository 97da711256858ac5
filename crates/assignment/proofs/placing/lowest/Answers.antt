use Rattle.std.proofs.Common.{◌≡◌, ◌∙◌, true, ap, sym, subst, below_more}
use Rattle.std.proofs.lemmas.Bool.{both_ways}
use Rattle.task_sheet.proofs.Common.{Indexes, indexes_of, without_index, IsResponseOf, Stands}
use Rattle.task_sheet.proofs.MembersIndexes.{indexes_of-remove}
use Rattle.assignment.proofs.AskLaws.{remove-part}
use Rattle.assignment.proofs.placing.lowest.Goals as goal
use Rattle.assignment.proofs.placing.lowest.Goals.{then-has+in_default, else-has}

pub response_below-requires-clause-part : goal.response_below-requires-clause-part
response_below-requires-clause-part c =
    rw c.without.ensures (remove-part c.args.set.now c.args.left c.loop-task.task c.requires)

pub returns-in-Some-clause-chosen : goal.returns-in-Some-clause-chosen
returns-in-Some-clause-chosen c =
    let rest = ap indexes_of c.without.ensures ∙ indexes_of-remove c.args.left c.loop-task.task in
    record {
      member = sym c.has.ensures ∙ c.if-has.true;
      stands = subst (λ (X : Indexes). Stands c.args.set.now c.loop-task.task X) rest
          c.in-Some.ensures.stands;
      first = c.loop-task.invariant;
    }

pub returns-in-Some-clause-response : goal.returns-in-Some-clause-response
returns-in-Some-clause-response c =
    let rest = ap indexes_of c.without.ensures ∙ indexes_of-remove c.args.left c.loop-task.task in
    subst (λ (X : Indexes). IsResponseOf c.args.set.now c.loop-task.task X c.in-Some.response) rest
    c.in-Some.ensures.some

pub loop-task-preserved : goal.loop-task-preserved
loop-task-preserved c =
    let U = c.args.set.now in
    let L = indexes_of c.args.left in
    let i = c.loop-task.task in
    below_more (λ j. L j ≡ true → ¬ Stands U j (without_index L j)) i c.loop-task.invariant
    (elim c.if-has.branch [
      | then-has+in_default w ↦
          let rest = ap indexes_of w.without.ensures ∙ indexes_of-remove c.args.left i in
          λ _. subst (λ (X : Indexes). ¬ Stands U i X) rest w.in_default.ensures.none
      | else-has w ↦
          λ member. absurd (both_ways c.has.result w.if-has.false (c.has.ensures ∙ member))
    ])
