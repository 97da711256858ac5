-- What `desk judge` answers and prints.
use Rattle.std.specs.Prelude.{ℕ, Bool, List, ◌++◌, string_bytes, Result, Ok, Err, if◌then◌else◌}
use Rattle.task_sheet.specs.Sheet.{Task}
use Rattle.judge.specs.Ceilings.{IsTextJudgement}
use Rattle.judge.specs.SettingFaults.{IsSettingsFault, given_fault_by}
use Rattle.judge.specs.Judgements.{all_meet, order_judged}
use Rattle.judge.specs.JudgedLines.{judged_lines}
use Rattle.judge.specs.Node.{AreNumbersIn}
use Rattle.judge.specs.declared.judging.JudgedTask.{JudgedTask}
use Rattle.judge.specs.declared.node.JudgedNode.{JudgedNode}
use Rattle.chain_tables.specs.Chains.{ChainData}
use Rattle.chain_lines.specs.declared.text.Telling.TheVariants as telling
use Rattle.two_input_commands.specs.Chained.{AreTold, chained_status}
use Rattle.answering.specs.OnBoth.{OfBoth}
use Rattle.answering.specs.Printed.{Answers}
use Rattle.two_input_commands.specs.declared.chained.ChainsTold.{ChainsTold}
use Rattle.answering.specs.declared.refusal.CommandRefusal.{CommandRefusal}
use Rattle.answering.specs.declared.refusal.CommandRefusal.TheVariants as refusal
use Rattle.answering.specs.declared.status.Status.{Status}
use Rattle.answering.specs.declared.status.Status.TheVariants as status

-- the text, whose numbers count so, gives the order that a node has, and by the ceilings of its mutexes this becomes of each
-- task of a set, whose thread has this number there
pub record IsJudgement (lower : Bool) (U : List Task) (text : List ℕ) (node : JudgedNode) : Type 0 where
  pub each : IsTextJudgement lower U text node.judged.items
  pub numbers : AreNumbersIn U text (order_judged node.judged.items) node.numbers.items

-- the answer on a set and the text of settings
abbrev pub JudgesNode : (lower : Bool) → List Task → List ℕ → Result JudgedNode CommandRefusal → Type 0
JudgesNode lower U text (Ok node) = IsJudgement lower U text node
JudgesNode lower U text (Err (refusal.Settings fault)) =
    IsSettingsFault fault (given_fault_by lower U text)
JudgesNode lower U text _ = ⊥

-- the same with what is told of the set's chains in that order
abbrev pub JudgesText : (lower : Bool) → List ChainData → List Task → List ℕ
    → Result (JudgedNode × ChainsTold) CommandRefusal → Type 0
JudgesText lower chains U text (Ok found) =
    IsJudgement lower U text found.0 × AreTold telling.Bound U chains found.0.judged.items found.1
JudgesText lower chains U text (Err (refusal.Settings fault)) =
    IsSettingsFault fault (given_fault_by lower U text)
JudgesText lower chains U text (Err refusal.OutOfMemory) = Unit {0}
JudgesText lower chains U text _ = ⊥

-- the exit status of an order
abbrev pub judged_status : List JudgedTask → Status
judged_status judged = if all_meet judged then status.Done else status.Infeasible

-- what is printed: whether all tasks meet their deadlines, what becomes of each, by slack where it is asked for, and then the
-- chains
abbrev pub judged_said : (sorted : Bool) → List Task → JudgedNode → ChainsTold → List ℕ
judged_said sorted U node told =
    judged_lines sorted U node.judged.items node.numbers.items ++ string_bytes told.text

-- the answer on both
abbrev pub JudgesBoth : (lower sorted : Bool) → OfBoth
JudgesBoth lower sorted both =
    Answers (JudgesText lower both.chains.items both.tasks both.text.items)
    (λ found. judged_said sorted both.tasks found.0 found.1)
    (λ found. chained_status found.0.judged.items found.1.are_met)
