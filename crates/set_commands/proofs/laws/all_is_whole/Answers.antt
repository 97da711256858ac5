use Rattle.std.proofs.Common.{◌≡◌, Bool, List, true, refl}
use Rattle.task_sheet.specs.Sheet.{Task}
use Rattle.task_lines.specs.declared.owner.Owner.{Owner}
use Rattle.explain.specs.declared.explanation.Explanation.{Explanation}
use Rattle.explain.specs.declared.explanation.Explanation.TheVariants.{Responses, Conflict}
use Rattle.judge.specs.declared.levels.LevelRow.{LevelRow}
use Rattle.judge.specs.declared.explained.Parted.TheVariants.{Missed}
use Rattle.set_commands.specs.Explain.{is_short, long_lines, parted_of, whole_lines}
use Rattle.set_commands.proofs.laws.all_is_whole.Goals as goal

whole : (sorted : Bool) (owners : List Owner) (U : List Task) (e : Explanation) (decided : List LevelRow)
    → (whole_lines (is_short true e) sorted owners U e decided ≡ long_lines sorted owners U e decided)
    × (parted_of (is_short true e) ≡ Missed)
whole sorted owners U (Responses accounts) decided = (refl, refl)
whole sorted owners U (Conflict left needs) decided = (refl, refl)

pub returns : goal.returns
returns c = whole
