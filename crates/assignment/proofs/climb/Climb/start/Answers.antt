use Rattle.std.proofs.Common.{◌∙◌, arith, ap, subst, length}
use Rattle.task_sheet.specs.TaskSet.{IsTaskSet}
use Rattle.assignment.proofs.ClimbLaws.{IsClimbing_start}
use Rattle.assignment.proofs.climb.Climb.start.Goals as goal

pub invariant_of-result : goal.invariant_of-result
invariant_of-result c = record {
  valid = subst IsTaskSet c.deref.ensures c.sheets.ensures.kept;
  climbing = IsClimbing_start c.args.set.value c.all-left.result (length c.sheets.result.now)
      c.in_ok-levels.levels.items c.all-left.ensures
      (ap length (c.sheets.ensures.same ∙ c.deref.ensures)) c.in_ok-levels.ensures.items;
  room = omega (arith, c.in_ok-levels.ensures.len, c.in_ok-levels.ensures.capacity, c.len.ensures);
  obstructed = tt;
}
