use Rattle.task_sheet.proofs.ChosenLaws.{level_at-stays}
use Rattle.desk_core.proofs.LevelLaws.{level_at-left}
use Rattle.desk_core.proofs.laws.levels_are_left.Goals as goal

pub returns : goal.returns
returns c = record { chosen = level_at-left; stays = level_at-stays }
