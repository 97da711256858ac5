use Rattle.std.proofs.Common.{refl, ◌≡◌, sym, inl, inr, [], map}
use Rattle.task_sheet.proofs.Common.{task_at, order_of, tasks_of}
use Rattle.task_sheet.proofs.TaskLaws.{AllTasks-from_set}
use Rattle.task_sheet.proofs.VerdictLaws.{IsStuck-infeasible}
use Rattle.assignment.proofs.ClimbLaws.{not_unfinished, IsClimbing-admitted}
use Rattle.drafts.proofs.PlacedLaws.{stuck-kept}
use Rattle.desk_core.specs.Trials.{names_of}
use Rattle.desk_core.proofs.ProgressLaws.{tested-ended}
use Rattle.desk_core.proofs.StageLaws.{names-none}
use Rattle.desk_core.proofs.trial.Trial.members.Goals as goal

pub returns-in-Some : goal.returns-in-Some
returns-in-Some c =
    let a = c.self.inside in
    let U = a.set.value in
    let fs = c.in-Some.field-0.now in
    let same = c.self.invariant.held.progress.same in
    let stuck = rw same at c.in-Some.ensures.stuck in
    let rest = rw same at c.in-Some.ensures.rest in
    let valid = AllTasks-from_set U (rw c.deref.ensures at c.sheets.ensures.kept) in
    let names : names_of U c.left.result ≡ map (λ i. (task_at U i).name) (tasks_of fs) =
    rw (c.left.ensures.same, rest) refl in
    rw (← c.self.view_is) (inr (
      IsStuck-infeasible U valid fs stuck,
      (tasks_of fs, stuck-kept U fs stuck, names),
    ))

pub returns-in-None : goal.returns-in-None
returns-in-None c =
    let a = c.self.inside in
    let U = a.set.value in
    let so = c.self.invariant.held.progress in
    let ended =
    tested-ended U a.climb a.found.items so (rw (← c.self.view_is) at c.requires) in
    let gone = not_unfinished a.climb (sym c.in-None.ensures.some) ended in
    let best =
    IsClimbing-admitted a.climb.set a.climb.left a.climb.levels c.levels.ensures.right gone in
    let none : names_of U c.empty.result ≡ [] = rw c.empty.ensures (names-none U) in
    rw (← c.self.view_is) (inl (
      (order_of a.climb.levels, rw so.same at best.best.passing),
      none,
    ))
