-- What a command says of the set that a reader has, once that is placed.
use Rattle.std.specs.Prelude.{◌⊎◌, ℕ, List, Option, Result, Ok, Err}
use Rattle.preferences.specs.declared.asking.Asking.{Asking}
use Rattle.answering.specs.Owning.{HasChained, HasOwned}
use Rattle.answering.specs.Printed.{PrintsAnswer}
use Rattle.answering.specs.Sets.{HasNoSet}
use Rattle.answering.specs.declared.answer.Answer.{Answer}
use Rattle.answering.specs.declared.refusal.CommandRefusal.{CommandRefusal}
use Rattle.answering.specs.declared.status.Status.{Status}
use Rattle.set_commands.specs.Chained.{IsPlaced}
use Rattle.set_commands.specs.declared.chained.Placed.{Placed}

-- what is said of a reader, by what the call prefers: what the writer held, what it holds then, and the status
abbrev pub OfOneSays : Type 1
OfOneSays = Asking → Option (List ℕ) → (before after : Option (List ℕ)) → Status → Type 0

-- a reader has this set, as the call asks for it, whose its tasks are and its chains, and it was placed
abbrev pub HasPlaced : Asking → Option (List ℕ) → Placed → Type 0
HasPlaced asking known placed =
    HasOwned asking known placed.tasks placed.owners.items
    × HasChained known placed.tasks placed.chains.items × IsPlaced placed

-- the answer on what a reader has: that, or why there is none
abbrev pub Places : Asking → Option (List ℕ) → Result Placed CommandRefusal → Type 0
Places asking known (Ok placed) = HasPlaced asking known placed
Places asking known (Err r) = HasNoSet asking known r

-- what a command answers on a set that was placed
abbrev pub OfSet : Type 1
OfSet = Placed → Result Answer CommandRefusal → Type 0

-- its answer on what the reader has: that on its set, or why there is none
abbrev pub OnSet : OfSet → Asking → Option (List ℕ) → Result Answer CommandRefusal → Type 0
OnSet answers asking known (Ok answer) =
    (placed : Placed) × HasPlaced asking known placed × answers placed (Ok answer)
OnSet answers asking known (Err r) =
    HasNoSet asking known r
    ⊎ ((placed : Placed) × HasPlaced asking known placed × answers placed (Err r))

-- it is printed after what the writer held, and the status is the answer's
abbrev pub SaysOnSet : OfSet → OfOneSays
SaysOnSet answers asking known before after s = PrintsAnswer (OnSet answers asking known) before after s
