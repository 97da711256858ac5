use Rattle.std.proofs.Common.{◌≡◌, ◌↔◌, ◌<◌, ◌∙◌, ℕ, length, get_or, Option, Some, None, IsTrue}
use Rattle.std.proofs.Common.{IsFalse, sym, ap, subst, arith, refl}
use Rattle.std.specs.FinSet.{contains}
use Rattle.std.proofs.lemmas.Bool.{both_ways}
use Rattle.std.proofs.lemmas.List.{get_or_read}
use Rattle.task_sheet.proofs.Common.{indexes_of, without_index, Stands}
use Rattle.assignment.specs.declared.outcome.Outcome.{Outcome}
use Rattle.assignment.specs.declared.level.Level.TheInside.{Inside}
use Rattle.assignment.specs.LevelFields.{IsLevelKept}
use Rattle.assignment.specs.Levels.{LevelState, lets_stand}
use Rattle.assignment.proofs.LevelLaws.{NoneBelow-more, IsDecided-standing, known-found}
use Rattle.assignment.proofs.LevelLaws.{known-stands}
use Rattle.assignment.proofs.level.Level.decided.Goals as goal
use Rattle.assignment.proofs.level.Level.decided.Goals.{then-has+in-Some+else-lets_stand, else-has}

-- the answer that was read at a place is a finding, and says whether the candidate may stand
answer-says : (a : Inside) (l : LevelState) (n : ℕ) (o : Option Outcome) (answer : Outcome)
    → IsLevelKept a
    → (let state : LevelState = record { set = a.set.value; left = a.left; missing = a.missing } in
    state ≡ l)
    → n < length a.answers.items → o ≡ get_or a.answers.items n o → o ≡ Some answer
    → IsFalse (contains l.missing n)
    × (IsTrue (lets_stand answer) ↔ Stands l.set n (without_index (indexes_of l.left) n))
answer-says a l n o answer kept view lt read is =
    let known = sym (get_or_read a.answers.items n o lt read None) ∙ is in
    subst (λ (x : LevelState). IsFalse (contains x.missing n)
    × (IsTrue (lets_stand answer) ↔ Stands x.set n (without_index (indexes_of x.left) n))) view (
      known-found a.left a.missing a.answers.items n answer kept.missing known,
      known-stands
          a.set.value (indexes_of a.left) a.answers.items n answer kept.valid kept.right known,
    )

pub returns-in-Some : goal.returns-in-Some
returns-in-Some c =
    let l = c.args.self.now in
    let n = c.loop-task.task in
    let member = sym (c.has.ensures ∙ ap (λ (x : LevelState). contains x.left n) c.self.view_is)
    ∙ c.if-has.true in
    let said = answer-says c.self.inside l n c.index.result.now c.in-Some.answer c.self.invariant
    c.self.view_is (omega (
      arith,
      c.self.invariant.right.full,
      c.len-task-end.ensures.count,
      ap length c.deref.ensures,
    )) c.index.ensures c.in-Some.is in (
      λ _. IsDecided-standing l n c.loop-task.invariant member said.0
          (said.1.0 (sym c.lets_stand.ensures ∙ c.if-lets_stand.true)),
      λ _. refl,
    )

pub loop-task-preserved : goal.loop-task-preserved
loop-task-preserved c =
    let l = c.args.self.now in
    let n = c.loop-task.task in
    let has = c.has.ensures ∙ ap (λ (x : LevelState). contains x.left n) c.self.view_is in
    elim c.if-has.branch [
      | then-has+in-Some+else-lets_stand w ↦
          let said = answer-says c.self.inside l n w.index.result.now w.in-Some.answer
          c.self.invariant c.self.view_is (omega (
            arith,
            c.self.invariant.right.full,
            c.len-task-end.ensures.count,
            ap length c.deref.ensures,
          )) w.index.ensures
          w.in-Some.is in
          NoneBelow-more l n c.loop-task.invariant (λ _. (
            said.0,
            λ stands. both_ways
                w.lets_stand.result w.if-lets_stand.false (w.lets_stand.ensures ∙ said.1.1 stands),
          ))
      | else-has w ↦ NoneBelow-more l n c.loop-task.invariant
          (λ member. absurd (both_ways c.has.result w.if-has.false (has ∙ member)))
    ]
