use Rattle.std.proofs.Common.{◌≡◌, ◌+◌, ◌<◌, List, ◌++◌, length, All}
use Rattle.judge.specs.Explained.{AreLevels}
use Rattle.judge.specs.Judgements.{AllJudged}
use Rattle.judge.specs.declared.levels.LevelRow.{LevelRow}
use Rattle.judge.specs.declared.judging.JudgedTask.{JudgedTask}
use Rattle.judge.proofs.explained.levels_of.Given as goal

-- with the rows of the levels that are left, those so far are the rows of all
abbrev pub invariant-loop-entry : goal.invariant-loop-entry
invariant-loop-entry l = record {
  each : AllJudged l.set l.rest;
  within : All (λ (j : JudgedTask). j.task < length l.set) l.rest;
  counted : l.number + length l.rest ≡ 1 + length l.judged;
  whole : (more : List LevelRow) → AreLevels l.parted l.set l.asked l.number l.rest more
      → AreLevels l.parted l.set l.asked 1 l.judged (l.rows.items ++ more);
}

abbrev pub decreases-loop-entry : goal.decreases-loop-entry
decreases-loop-entry l = length l.rest
