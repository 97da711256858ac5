-- The task or the chain that a word names.
use Rattle.std.specs.Prelude.{◌≡◌, ℕ, List, Option, Some, None, Result, Ok, Err}
use Rattle.std.specs.List.{find}
use Rattle.task_sheet.specs.Sheet.{Task, same_bytes}
use Rattle.chain_tables.specs.Chains.{ChainData}
use Rattle.ceiling_kernel.specs.Releases.{task_named}
use Rattle.lines.specs.Words.{name_in}
use Rattle.answering.specs.declared.answer.Answer.{Answer}
use Rattle.answering.specs.declared.refusal.CommandRefusal.{CommandRefusal}
use Rattle.answering.specs.declared.refusal.CommandRefusal.TheVariants as refusal

-- the task of a set that has the name that a word is
abbrev pub named_task : List Task → Option (List ℕ) → Option ℕ
named_task U None = None
named_task U (Some name) = task_named U name

-- the same by the word
abbrev pub asked_task : List Task → List ℕ → Option ℕ
asked_task U word = named_task U (name_in word)

-- no task has the name; where the word is no name, it isn't repeated
abbrev pub no_such_task : List ℕ → CommandRefusal
no_such_task word = refusal.NoSuchTask (name_in word)

-- the task that is asked about: the one that has the name that a word is, where there is a word; or that there is none
abbrev pub AsksTask : List Task → Option (List ℕ) → Result (Option ℕ) CommandRefusal → Type 0
AsksTask U None (Ok asked) = asked ≡ None
AsksTask U (Some word) (Ok asked) = (task : ℕ) × (asked_task U word ≡ Some task) × (asked ≡ Some task)
AsksTask U (Some word) (Err (refusal.NoSuchTask name)) = (asked_task U word ≡ None) × (name ≡ name_in word)
AsksTask U _ _ = ⊥

-- the answer on the task that is asked about, if one is; or that there is none
abbrev pub AnswersAsked : (Option ℕ → Result Answer CommandRefusal → Type 0) → List Task → Option (List ℕ)
    → Result Answer CommandRefusal → Type 0
AnswersAsked answers U word (Ok answer) =
    (asked : Option ℕ) × AsksTask U word (Ok asked) × answers asked (Ok answer)
AnswersAsked answers U word (Err refusal.OutOfMemory) = Unit {0}
AnswersAsked answers U word (Err r) = AsksTask U word (Err r)

-- the chain of a set that has the name that a word is
abbrev pub named_chain : List ChainData → Option (List ℕ) → Option ChainData
named_chain chains None = None
named_chain chains (Some name) = find (λ c. same_bytes c.name name) chains

-- the same by the word
abbrev pub asked_chain : List ChainData → List ℕ → Option ChainData
asked_chain chains word = named_chain chains (name_in word)

-- no chain has the name
abbrev pub no_such_chain : List ℕ → CommandRefusal
no_such_chain word = refusal.NoSuchChain (name_in word)
