use Rattle.std.proofs.Common.{◌≡◌, ◌↔◌, IsTrue, subst}
use Rattle.task_sheet.proofs.Common.{IsTaskSet, indexes_of, Stands}
use Rattle.assignment.specs.declared.outcome.Outcome.{Outcome}
use Rattle.assignment.specs.declared.outcome.Outcome.TheVariants.{Pass, Fail}
use Rattle.assignment.specs.Levels.{lets_stand}
use Rattle.assignment.specs.Questions.{QuestionData, FindingData, IsRight}
use Rattle.assignment.proofs.LevelLaws.{lets_stand-iff}
use Rattle.assignment.proofs.question.Finding.passes.Goals as goal

says : (f : FindingData) (q : QuestionData) (given answer : Outcome) (set : IsTaskSet q.set)
    → IsRight q given → given ≡ answer
    → (let inside : FindingData = record { question = q; answer = given } in inside) ≡ f
    → IsTrue (lets_stand answer)
    ↔ Stands f.question.set f.question.task (indexes_of f.question.above)
says f q given answer set right is view =
    subst (λ (x : FindingData). IsTrue (lets_stand answer)
    ↔ Stands x.question.set x.question.task (indexes_of x.question.above)) view
    (lets_stand-iff q.set q.task (indexes_of q.above) answer set
    (subst (λ (a : Outcome). IsRight q a) is right))

pub returns-in-Pass : goal.returns-in-Pass
returns-in-Pass c = says c.args.self.now c.self.inside.question c.self.inside.answer
    (Pass c.in-Pass.response) (subst IsTaskSet c.set.ensures c.sheets.ensures.kept)
    c.self.invariant c.in-Pass.is c.self.view_is

pub returns-in-Fail : goal.returns-in-Fail
returns-in-Fail c = says c.args.self.now c.self.inside.question c.self.inside.answer
    (Fail c.in-Fail.reason) (subst IsTaskSet c.set.ensures c.sheets.ensures.kept)
    c.self.invariant c.in-Fail.is c.self.view_is
