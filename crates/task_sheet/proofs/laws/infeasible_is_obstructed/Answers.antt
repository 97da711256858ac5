use Rattle.task_sheet.proofs.ObstructionLaws.{IsObstruction-fails}
use Rattle.task_sheet.proofs.Deciding.{greatest_obstruction}
use Rattle.task_sheet.proofs.laws.infeasible_is_obstructed.Goals as goal

pub returns : goal.returns
returns c = record {
  exactly = λ U valid. (
    λ none. let found = greatest_obstruction U valid none in (found.0, found.1.obstruction),
    λ o. IsObstruction-fails U valid o.0 o.1,
  );
  greatest = λ U S valid h. greatest_obstruction U valid (IsObstruction-fails U valid S h);
}
