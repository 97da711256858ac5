use Rattle.std.proofs.Common.{sym, subst, List}
use Rattle.task_sheet.specs.Sheet.{Task}
use Rattle.task_sheet.specs.Indexes.{indexes_of}
use Rattle.task_sheet.specs.Levels.{IsGreatestObstruction}
use Rattle.drafts.proofs.placed.StuckSet.copy.Goals as goal

pub invariant_of-result : goal.invariant_of-result
invariant_of-result c =
    subst (λ (U : List Task). IsGreatestObstruction U (indexes_of c.self.inside.members))
    (sym c.in_ok-set.ensures.cases) c.self.invariant
