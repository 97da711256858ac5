-- What `desk worst` answers and prints.
use Rattle.std.specs.Prelude.{◌≡◌, ℕ, List, [], Option, Some, None, Result, Ok, Err}
use Rattle.task_sheet.specs.Sheet.{Task}
use Rattle.lines.specs.Words.{name_in}
use Rattle.assignment.specs.declared.placing.Placing.{Placing}
use Rattle.assignment.specs.declared.placing.Placing.TheVariants.{Best, Stuck}
use Rattle.chain_tables.specs.Chains.{ChainData}
use Rattle.settings.specs.Settings.{settings_from}
use Rattle.worst_lines.specs.Deciding.{IsDeciding}
use Rattle.worst_lines.specs.WorstLines.{AreWorstLines}
use Rattle.chain_worst.specs.Shown.{AreChainLines, no_bound_lines}
use Rattle.least_chains.specs.LeastBound.{levels_at}
use Rattle.answering.specs.Asked.{AnswersAsked, asked_chain}
use Rattle.answering.specs.Printed.{AnswersText}
use Rattle.answering.specs.Statuses.{placing_status}
use Rattle.answering.specs.declared.answer.Answer.{Answer}
use Rattle.answering.specs.declared.refusal.CommandRefusal.{CommandRefusal}
use Rattle.answering.specs.declared.refusal.CommandRefusal.TheVariants as refusal
use Rattle.set_commands.specs.OnSet.{OfSet}
use Rattle.set_commands.specs.declared.chained.Placed.{Placed}

-- ---- of a task
-- the answer: the worst case of the task that a word names, or of the one that the set's verdict is about
abbrev pub WorstsTask : Option (List ℕ) → OfSet
WorstsTask word placed =
    AnswersAsked (λ asked. AnswersText (AreWorstLines placed.tasks placed.placing asked) (placing_status placed.placing))
    placed.tasks word

-- ---- of a chain
-- a text is what is printed of a chain of a placed set: in the best order the run that its bound describes; where no order
-- passes that it has none, and the settings of an order that decides
abbrev pub AreLinesOfChain : List Task → Placing → ChainData → List ℕ → Type 0
AreLinesOfChain U (Best places) chain text = AreChainLines U (levels_at places.items) [] chain text
AreLinesOfChain U (Stuck left) chain text =
    (order : List ℕ) × IsDeciding U order × (text ≡ no_bound_lines chain (settings_from U 1 order))

-- the answer: that of the chain that a word names; or that there is none
abbrev pub WorstsChain : List ℕ → OfSet
WorstsChain word placed (Ok answer) =
    ((chain : ChainData) × (asked_chain placed.chains.items word ≡ Some chain)
    × AreLinesOfChain placed.tasks placed.placing chain answer.text.items)
    × (answer.status ≡ placing_status placed.placing)
WorstsChain word placed (Err (refusal.NoSuchChain name)) =
    (asked_chain placed.chains.items word ≡ None) × (name ≡ name_in word)
WorstsChain word placed (Err refusal.OutOfMemory) = Unit {0}
WorstsChain word placed (Err _) = ⊥

-- of a chain, where a word names one, else of a task
abbrev pub WorstsSet : (chain task : Option (List ℕ)) → OfSet
WorstsSet (Some word) task = WorstsChain word
WorstsSet None task = WorstsTask task
