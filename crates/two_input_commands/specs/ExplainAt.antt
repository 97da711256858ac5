-- What `desk explain SET --at SETTINGS` answers and prints.
use Rattle.std.specs.Prelude.{◌≡◌, ℕ, Bool, true, List, [], ◌++◌, Option, Some, None, Result, Ok, Err, string_bytes}
use Rattle.task_sheet.specs.Sheet.{Task}
use Rattle.judge.specs.Explained.{AreLevels, explained_lines}
use Rattle.judge.specs.JudgementLines.{meets_line}
use Rattle.judge.specs.declared.explained.Parted.TheVariants.{Each}
use Rattle.judge.specs.Slack.{sorted_if}
use Rattle.judge.specs.declared.levels.LevelRow.{LevelRow}
use Rattle.task_lines.specs.declared.owner.Owner.{Owner}
use Rattle.two_input_commands.specs.InOrder.{AsksIn}
use Rattle.judge.specs.declared.judging.JudgedTask.{JudgedTask}
use Rattle.chain_tables.specs.Chains.{ChainData}
use Rattle.chain_lines.specs.declared.text.Telling.TheVariants as telling
use Rattle.two_input_commands.specs.Chained.{AreTold, chained_status}
use Rattle.answering.specs.OnBoth.{OfBoth}
use Rattle.answering.specs.Printed.{Answers}
use Rattle.two_input_commands.specs.declared.chained.ChainsTold.{ChainsTold}
use Rattle.two_input_commands.specs.declared.explain_at_lines.ExplainedOrder.{ExplainedOrder}
use Rattle.answering.specs.declared.refusal.CommandRefusal.{CommandRefusal}

-- what is told of chains in an order; nothing where it is asked about one task
abbrev pub AreToldOf : Option ℕ → List Task → List ChainData → List JudgedTask → ChainsTold → Type 0
AreToldOf None U chains judged told = AreTold telling.Parts U chains judged told
AreToldOf (Some asked) U chains judged told = (string_bytes told.text ≡ []) × (told.are_met ≡ true)

-- the answer on a set with these chains and the text of settings: what becomes of each task in the order that they give, what is
-- told of each level, by slack where it is asked for, or of that of the task that is asked about, and what of the chains
abbrev pub ExplainsText : Option (List ℕ) → (sorted : Bool) → List ChainData → List Task → List ℕ
    → Result (ExplainedOrder × ChainsTold) CommandRefusal → Type 0
ExplainsText word sorted chains U text (Ok found) =
    AsksIn word U text (Ok (found.0.node, found.0.asked))
    × ((rows : List LevelRow) × AreLevels Each U found.0.asked 1 found.0.node.judged.items rows
    × (found.0.levels.items ≡ sorted_if sorted U rows))
    × AreToldOf found.0.asked U chains found.0.node.judged.items found.1
ExplainsText word sorted chains U text (Err r) = AsksIn word U text (Err r)

-- what is printed: whether all tasks meet their deadlines, then the lines, each task with its team, and the chains
abbrev pub explained_at_lines : List Owner → List Task → ExplainedOrder → ChainsTold → List ℕ
explained_at_lines owners U found told =
    (meets_line U found.node.judged.items
    ++ explained_lines owners U found.asked found.levels.items)
    ++ string_bytes told.text

-- the answer on both
abbrev pub ExplainsBoth : Option (List ℕ) → (sorted : Bool) → OfBoth
ExplainsBoth word sorted both =
    Answers (ExplainsText word sorted both.chains.items both.tasks both.text.items)
    (λ found. explained_at_lines both.owners.items both.tasks found.0 found.1)
    (λ found. chained_status found.0.node.judged.items found.1.are_met)
