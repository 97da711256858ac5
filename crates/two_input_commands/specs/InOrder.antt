-- What is asked of an order that settings give.
use Rattle.std.specs.Prelude.{◌≡◌, ℕ, List, Option, Some, None, Result, Ok, Err}
use Rattle.task_sheet.specs.Sheet.{Task}
use Rattle.judge.specs.SettingFaults.{IsSettingsFault, settings_fault}
use Rattle.judge.specs.Judgements.{AllJudged, order_judged}
use Rattle.judge.specs.Node.{AreNumbersIn, IsNodeOrder}
use Rattle.judge.specs.declared.node.JudgedNode.{JudgedNode}
use Rattle.answering.specs.Asked.{AsksTask}
use Rattle.answering.specs.declared.refusal.CommandRefusal.{CommandRefusal}
use Rattle.answering.specs.declared.refusal.CommandRefusal.TheVariants as refusal

-- the text, in which each ceiling is the least, gives this order, and this becomes of each task of a set, whose thread has
-- this number there
pub record IsOrderJudged (U : List Task) (text : List ℕ) (node : JudgedNode) : Type 0 where
  pub order : IsNodeOrder U text (order_judged node.judged.items)
  pub each : AllJudged U node.judged.items
  pub numbers : AreNumbersIn U text (order_judged node.judged.items) node.numbers.items

-- the answer on a set and the text
abbrev pub JudgesOrder : List Task → List ℕ → Result JudgedNode CommandRefusal → Type 0
JudgesOrder U text (Ok node) = IsOrderJudged U text node
JudgesOrder U text (Err (refusal.Settings fault)) = IsSettingsFault fault (settings_fault U text)
JudgesOrder U text _ = ⊥

-- the answer on a set and the text of settings: what becomes of each task in the order that they give, and the task that is
-- asked about
abbrev pub AsksIn : Option (List ℕ) → List Task → List ℕ → Result (JudgedNode × Option ℕ) CommandRefusal
    → Type 0
AsksIn word U text (Ok found) = IsOrderJudged U text found.0 × AsksTask U word (Ok found.1)
AsksIn word U text (Err (refusal.Settings fault)) = IsSettingsFault fault (settings_fault U text)
AsksIn word U text (Err (refusal.NoSuchTask name)) =
    (settings_fault U text ≡ None) × AsksTask U word (Err (refusal.NoSuchTask name))
AsksIn word U text (Err refusal.OutOfMemory) = Unit {0}
AsksIn word U text _ = ⊥
