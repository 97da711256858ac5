use Rattle.std.proofs.Common.{◌∙◌, ap, sym, subst, List}
use Rattle.task_sheet.specs.Sheet.{Task}
use Rattle.task_sheet.specs.TaskSet.{IsTaskSet}
use Rattle.task_sheet.specs.Verdicts.{IsVerdictOf, IsStuck, tasks_of}
use Rattle.task_sheet.proofs.TaskLaws.{AllTasks-from_set}
use Rattle.task_sheet.proofs.ObstructionLaws.{IsObstruction-fails}
use Rattle.task_sheet.proofs.VerdictLaws.{IsBestOrder-feasible}
use Rattle.assignment.specs.Verdict.{verdict_of}
use Rattle.assignment.specs.declared.verdict.Verdict.{Verdict}
use Rattle.drafts.specs.Placed.{StuckSetData}
use Rattle.drafts.proofs.PlacedLaws.{AreStuck-one, listed-stuck, stuck-kept}
use Rattle.drafts.proofs.placed.StuckSet.reasons.Goals as goal

pub unreachable-requires : goal.unreachable-requires
unreachable-requires c =
    let U = c.self.inside.set.value in
    let valid = subst (λ (V : List Task). IsTaskSet V) c.deref.ensures c.sheets.ensures.kept in
    let of_set = c.in_ok-clone.ensures.cases in
    let verdict = subst (λ (V : List Task). IsVerdictOf V (verdict_of c.in_ok-obstruction.field-0))
    of_set c.in_ok-obstruction.ensures.verdict in
    let best = subst (λ (v : Verdict). IsVerdictOf U (verdict_of v)) c.in-Admitted.is verdict in
    IsObstruction-fails U (AllTasks-from_set U valid) _ c.self.invariant.obstruction
    (IsBestOrder-feasible U c.in-Admitted.field-0.levels best)

pub returns-clause-members : goal.returns-clause-members
returns-clause-members c =
    let U = c.self.inside.set.value in
    let of_set = c.in_ok-clone.ensures.cases in
    let verdict = subst (λ (V : List Task). IsVerdictOf V (verdict_of c.in_ok-obstruction.field-0))
    of_set c.in_ok-obstruction.ensures.verdict in
    let fails = c.in-Infeasible.obstruction.members in
    let stuck = subst (λ (v : Verdict). IsVerdictOf U (verdict_of v)) c.in-Infeasible.is verdict in
    AreStuck-one U (tasks_of fails) _ (stuck-kept U fails stuck)
    (listed-stuck U c.self.inside.members c.self.invariant)
    ∙ ap (λ (s : StuckSetData). s.members) c.self.view_is
