-- What `desk worst SET --at SETTINGS` answers and prints.
use Rattle.std.specs.Prelude.{◌≡◌, ℕ, List, Option, Some, None, Result, Ok, Err, string_bytes}
use Rattle.task_sheet.specs.Sheet.{Task}
use Rattle.lines.specs.Words.{name_in}
use Rattle.chain_tables.specs.Chains.{ChainData}
use Rattle.chain_worst.specs.Shown.{AreChainLines}
use Rattle.settings.specs.Settings.{settings_from}
use Rattle.judge.specs.Judgements.{order_judged}
use Rattle.judge.specs.SettingFaults.{IsSettingsFault, settings_fault}
use Rattle.judge.specs.declared.node.JudgedNode.{JudgedNode}
use Rattle.worst_lines.specs.WorstLines.{AreWorstLinesIn}
use Rattle.two_input_commands.specs.Chained.{levels_judged}
use Rattle.two_input_commands.specs.InOrder.{AsksIn, IsOrderJudged}
use Rattle.two_input_commands.specs.Judge.{judged_status}
use Rattle.answering.specs.OnBoth.{OfBoth}
use Rattle.answering.specs.Printed.{Answers}
use Rattle.two_input_commands.specs.declared.in_order.InOrder.{InOrder}
use Rattle.answering.specs.Asked.{asked_chain}
use Rattle.answering.specs.declared.refusal.CommandRefusal.{CommandRefusal}
use Rattle.answering.specs.declared.refusal.CommandRefusal.TheVariants as refusal

-- the answer on a set and the text of settings: what becomes of each task in the order that they give, and the lines of the
-- worst case there, with its settings in front of the list
abbrev pub WorstsTask : Option (List ℕ) → List Task → List ℕ → Result InOrder CommandRefusal → Type 0
WorstsTask word U text (Ok found) =
    (asked : Option ℕ) × AsksIn word U text (Ok (found.node, asked))
    × AreWorstLinesIn U (settings_from U 1 (order_judged found.node.judged.items)) found.node.judged.items asked (string_bytes found.text)
WorstsTask word U text (Err r) = AsksIn word U text (Err r)

-- these are the lines of a chain in an order that was judged: its settings stand in front of the list
abbrev pub AreChainLinesIn : List Task → JudgedNode → ChainData → List ℕ → Type 0
AreChainLinesIn U node chain text =
    AreChainLines U (levels_judged node.judged.items) (settings_from U 1 (order_judged node.judged.items)) chain text

-- the same on a set with these chains, of the one that a word names
abbrev pub WorstsChain : List ℕ → List ChainData → List Task → List ℕ → Result InOrder CommandRefusal → Type 0
WorstsChain word chains U text (Ok found) =
    IsOrderJudged U text found.node
    × ((chain : ChainData) × (asked_chain chains word ≡ Some chain)
    × AreChainLinesIn U found.node chain (string_bytes found.text))
WorstsChain word chains U text (Err (refusal.Settings fault)) = IsSettingsFault fault (settings_fault U text)
WorstsChain word chains U text (Err (refusal.NoSuchChain name)) =
    (settings_fault U text ≡ None) × (asked_chain chains word ≡ None) × (name ≡ name_in word)
WorstsChain word chains U text (Err refusal.OutOfMemory) = Unit {0}
WorstsChain word chains U text _ = ⊥

-- of a chain, where a word names one, else of a task
abbrev pub WorstsText : (chain task : Option (List ℕ)) → List ChainData → List Task → List ℕ
    → Result InOrder CommandRefusal → Type 0
WorstsText (Some word) task chains U text answer = WorstsChain word chains U text answer
WorstsText None task chains U text answer = WorstsTask task U text answer

-- the answer on both
abbrev pub WorstsBoth : (chain task : Option (List ℕ)) → OfBoth
WorstsBoth chain task both =
    Answers (WorstsText chain task both.chains.items both.tasks both.text.items)
    (λ found. string_bytes found.text) (λ found. judged_status found.node.judged.items)
