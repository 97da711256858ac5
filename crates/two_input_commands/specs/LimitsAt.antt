-- What `desk limits SET --at SETTINGS` answers and prints.
use Rattle.std.specs.Prelude.{◌≡◌, ℕ, false, List, ◌++◌, Option, Some, None, Result, Ok, Err, string_bytes}
use Rattle.task_sheet.specs.Sheet.{Task}
use Rattle.assignment.specs.Places.{PlaceData}
use Rattle.judge.specs.Judgements.{all_meet, judged_of, order_judged}
use Rattle.judge.specs.JudgementLines.{meets_line}
use Rattle.judge.specs.declared.judging.JudgedTask.{JudgedTask}
use Rattle.judge.specs.declared.node.JudgedNode.{JudgedNode}
use Rattle.chain_tables.specs.Chains.{ChainData}
use Rattle.limit_lines.specs.Whole.{AreLimits}
use Rattle.two_input_commands.specs.InOrder.{AsksIn}
use Rattle.two_input_commands.specs.Judge.{judged_status}
use Rattle.answering.specs.OnBoth.{OfBoth}
use Rattle.answering.specs.Printed.{Answers}
use Rattle.task_lines.specs.declared.owner.Owner.{Owner}
use Rattle.two_input_commands.specs.declared.in_order.InOrder.{InOrder}
use Rattle.answering.specs.declared.refusal.CommandRefusal.{CommandRefusal}

-- these are the places of an order in which this becomes of its tasks: none where some task doesn't meet its deadline
abbrev pub ArePlacesOf : List JudgedTask → Option (List PlaceData) → Type 0
ArePlacesOf judged (Some places) = judged ≡ judged_of places
ArePlacesOf judged None = all_meet judged ≡ false

-- the text is what is printed of an order: whether all its tasks meet their deadlines, and how far its numbers may go, also with
-- each chain met
abbrev pub IsLimitsText : List Owner → List ChainData → List Task → JudgedNode → (asked : Option ℕ) → List ℕ
    → Type 0
IsLimitsText owners chains U node asked text =
    (places : Option (List PlaceData)) × (lines : List ℕ) × ArePlacesOf node.judged.items places
    × AreLimits owners chains U (Some (order_judged node.judged.items)) places asked lines
    × (text ≡ meets_line U node.judged.items ++ lines)

-- the answer on a set and the text of settings: what becomes of each task in the order that they give, and what is printed
-- of it
abbrev pub LimitsText : Option (List ℕ) → List Owner → List ChainData → List Task → List ℕ
    → Result InOrder CommandRefusal → Type 0
LimitsText word owners chains U text (Ok found) =
    (asked : Option ℕ) × AsksIn word U text (Ok (found.node, asked))
    × IsLimitsText owners chains U found.node asked (string_bytes found.text)
LimitsText word owners chains U text (Err r) = AsksIn word U text (Err r)

-- the answer on both
abbrev pub LimitsBoth : Option (List ℕ) → OfBoth
LimitsBoth word both =
    Answers (LimitsText word both.owners.items both.chains.items both.tasks both.text.items)
    (λ found. string_bytes found.text) (λ found. judged_status found.node.judged.items)
