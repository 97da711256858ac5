use Rattle.std.proofs.Common.{◌≡◌, List, sym, subst}
use Rattle.std.specs.FinSet.{FinSet}
use Rattle.std.specs.Ordering.{nat_cmp}
use Rattle.task_sheet.proofs.Common.{Task, indexes_of, FailureData}
use Rattle.assignment.specs.Climbs.{ClimbState, IsNext}
use Rattle.assignment.specs.Levels.{LevelState, IsObstructed}
use Rattle.assignment.proofs.climb.Climb.close_own.Goals as goal

obstructed_inside : (a climb : ClimbState) (l : LevelState) (fails : List FailureData) → a ≡ climb
    → IsNext climb l → IsObstructed l.set (indexes_of l.left) fails
    → IsObstructed a.set (indexes_of a.left) fails
obstructed_inside a climb l fails same next h =
    subst (λ (x : ClimbState). IsObstructed x.set (indexes_of x.left) fails) (sym same)
    (subst (λ (s : List Task). IsObstructed s (indexes_of climb.left) fails) next.same
    (subst (λ (left : FinSet nat_cmp). IsObstructed l.set (indexes_of left) fails) next.rest h))

pub invariant_of-self : goal.invariant_of-self
invariant_of-self c =
    let ended = rw c.in-Ok-Obstruction.field-0-is at c.in-Ok-Obstruction.ensures.closed in
    record {
      valid = c.self.invariant.valid;
      climbing = c.self.invariant.climbing;
      room = c.self.invariant.room;
      obstructed = obstructed_inside _ _ _ _ c.self.view_is c.requires.next ended;
    }

pub invariant_of-self-in-Ok-Obstruction-2 : goal.invariant_of-self-in-Ok-Obstruction-2
invariant_of-self-in-Ok-Obstruction-2 c =
    let ended = rw c.in-Ok-Obstruction.field-0-is at c.in-Ok-Obstruction.ensures.closed in
    record {
      valid = c.self.invariant.valid;
      climbing = c.self.invariant.climbing;
      room = c.self.invariant.room;
      obstructed = obstructed_inside _ _ _ _ c.self.view_is c.requires.next ended;
    }
