-- What `desk admit` and `desk settings` answer and print.
use Rattle.std.specs.Prelude.{◌≡◌, ℕ, Bool, List, [], ◌++◌, Option}
use Rattle.task_sheet.specs.Sheet.{Task}
use Rattle.assignment.specs.declared.placing.Placing.{Placing}
use Rattle.assignment.specs.declared.placing.Placing.TheVariants.{Best, Stuck}
use Rattle.answering.specs.OrderParts.{placing_first, placing_said}
use Rattle.answering.specs.Printed.{AnswersText}
use Rattle.answering.specs.declared.answer.OrderPart.TheVariants.{Settings}
use Rattle.chain_lines.specs.declared.text.Telling.TheVariants.{Bound}
use Rattle.judge.specs.Levels.{placed_rows, rows_lines}
use Rattle.judge.specs.Slack.{sorted_if}
use Rattle.set_commands.specs.Chained.{chained_of, status_of}
use Rattle.set_commands.specs.OnSet.{OfSet}
use Rattle.set_commands.specs.declared.chained.Placed.{Placed}

-- each level of the order of a placing, the lowest first, or by slack where it is asked for; none where no order passes
abbrev pub levels_said : (sorted : Bool) → List Task → Placing → List ℕ
levels_said sorted U (Best places) = rows_lines [] U (sorted_if sorted U (placed_rows 1 places.items))
levels_said sorted U (Stuck left) = []

-- what is printed of a set that was placed: the first line of its placing, each level of its order, and each chain in it; or
-- the line of its obstruction
abbrev pub admitted_said : (sorted : Bool) → Placed → List ℕ
admitted_said sorted placed =
    (placing_first placed.tasks placed.placing ++ levels_said sorted placed.tasks placed.placing)
    ++ chained_of Bound placed

-- the answer of `desk admit`
abbrev pub AdmitsSet : (sorted : Bool) → OfSet
AdmitsSet sorted placed = AnswersText (λ text. text ≡ admitted_said sorted placed) (status_of placed)

-- that of `desk settings`: what a node is set to for the order, from a base on, with room, or the line of the obstruction
abbrev pub SettlesSet : (base room : ℕ) → OfSet
SettlesSet base room placed =
    AnswersText (λ text. text ≡ placing_said (Settings base room) placed.tasks placed.placing) (status_of placed)
