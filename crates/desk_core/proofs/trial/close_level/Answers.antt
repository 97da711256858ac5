use Rattle.std.proofs.Common.{◌∙◌, ap, length}
use Rattle.std.proofs.lemmas.Bool.{both_ways}
use Rattle.task_sheet.proofs.Common.{LevelData}
use Rattle.desk_core.proofs.ClosingLaws.{closed-placed, last-placed}
use Rattle.desk_core.proofs.trial.close_level.Goals as goal

pub returns-then-not-is_unfinished : goal.returns-then-not-is_unfinished
returns-then-not-is_unfinished c = (
  λ going. both_ways c.is_unfinished.result c.if-not-is_unfinished.true
      (c.is_unfinished.ensures.1 going),
  c.close_own.ensures,
)

pub returns : goal.returns
returns c =
    let old = c.args.climb.now in
    let new = c.close_own.new.self in
    let going = c.is_unfinished.ensures.0 c.if-not-is_unfinished.false in
    let placed = closed-placed old new going c.close_own.ensures in
    let read = last-placed old new placed c.levels-levels.result.now c.index-levels-levels.result
    c.levels-levels.ensures.same c.index-levels-levels.is in (
      placed,
      going,
      ap length c.levels-levels.ensures.same,
      c.read_level-task.ensures.task
          ∙ ap (λ (x : LevelData). x.task) read,
      c.read_level-task.ensures.response
          ∙ ap (λ (x : LevelData). x.response) read,
    )
