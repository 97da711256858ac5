use Rattle.std.proofs.Common.{false, refl}
use Rattle.std.proofs.lemmas.Bool.{both_ways}
use Rattle.task_sheet.proofs.TaskLaws.{AllTasks-from_set}
use Rattle.response_time.proofs.SlowedLaws.{Slowed, slowed-eased}
use Rattle.latest_first.proofs.OneOrder.{obstructs-fails}
use Rattle.assignment.proofs.feasibility.is_feasible_at.Goals as goal

pub returns-in-Some : goal.returns-in-Some
returns-in-Some c =
    let f = c.args.factor in (
      λ so. absurd (both_ways false refl so),
      λ feasible. absurd (obstructs-fails (Slowed f) (slowed-eased f) c.args.set.now
          (AllTasks-from_set c.args.set.now c.obstruction_at.ensures.kept) _ c.in-Some.ensures.some.obstruction feasible),
    )
