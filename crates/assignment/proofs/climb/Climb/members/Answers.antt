use Rattle.std.proofs.Common.{List, subst, sym}
use Rattle.task_sheet.proofs.Common.{FailureData, IsStuck}
use Rattle.assignment.specs.Climbs.{ClimbState}
use Rattle.assignment.proofs.ClimbLaws.{stuck_kept}
use Rattle.assignment.proofs.climb.Climb.members.Goals as goal

pub returns-in-Some-clause-stuck : goal.returns-in-Some-clause-stuck
returns-in-Some-clause-stuck c =
    subst (λ (x : ClimbState). IsStuck x.set c.deref.result.now) c.self.view_is
    (subst (λ (members : List FailureData). IsStuck c.self.inside.set.value members)
    (sym c.deref.ensures.value)
    (stuck_kept c.self.inside c.in-Some.members c.self.invariant c.in-Some.is))
