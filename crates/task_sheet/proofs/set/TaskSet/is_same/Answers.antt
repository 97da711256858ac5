use Rattle.std.proofs.Common.{rules}
use Rattle.std.proofs.lemmas.Slice.Eq.{slice_eq-Decides}
use Rattle.task_sheet.specs.SheetEquality.{same_sheet-Decides}
use Rattle.task_sheet.proofs.set.TaskSet.is_same.Goals as goal

pub returns : goal.returns
returns c = slice_eq-Decides same_sheet-Decides c.args.self.now c.args.other.now _ (search rules)
