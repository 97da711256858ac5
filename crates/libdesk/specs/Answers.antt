-- What a call leaves in its caller's memory.
use Rattle.std.specs.Prelude.{◌≡◌, ◌⊎◌, ◌<◌, ◌≤◌, ◌++◌, ℕ, List, [], Option, Some, length, drop}
use Rattle.answering.specs.Statuses.{code_of}
use Rattle.answering.specs.declared.status.Status.{Status}
use Rattle.answering.specs.declared.status.Status.TheVariants.{OutOfMemory}

-- a text stands at the start of a room, if it fits, and all else is as it was
abbrev pub Fills : List ℕ → List ℕ → List ℕ → Type 0
Fills text before after =
    (length text ≤ length before → after ≡ text ++ drop (length text) before)
    × (length before < length text → after ≡ before)

-- the room, the count and the number are those of what a command prints, and of its status
abbrev pub GivesCall : (Option (List ℕ) → Option (List ℕ) → Status → Type 0) → List ℕ → List ℕ → ℕ
    → ℕ
    → Type 0
GivesCall says before after count number =
    (text : List ℕ) × (s : Status) × says (Some []) (Some text) s
    × Fills text before after × (count ≡ length text) × (number ≡ code_of s)

-- there was no memory for what a command prints, and the room is as it was
abbrev pub GivesUp : List ℕ → List ℕ → ℕ → ℕ → Type 0
GivesUp before after count number = (after ≡ before) × (count ≡ 0) × (number ≡ code_of OutOfMemory)

-- the room and the count are those of what a person is told, and the number that of the status with which a command
-- answers; what is told is open
abbrev pub TellsPerson : (Option (List ℕ) → Option (List ℕ) → Status → Type 0) → List ℕ → List ℕ → ℕ
    → ℕ
    → Type 0
TellsPerson says before after count number =
    (told text : List ℕ) × (s : Status) × says (Some []) (Some text) s
    × Fills told before after × (count ≡ length told) × (number ≡ code_of s)

-- what a call that tells a person answers, by a command over its inputs
abbrev pub TellsCall : (Option (List ℕ) → Option (List ℕ) → Status → Type 0) → List ℕ → List ℕ → ℕ
    → ℕ
    → Type 0
TellsCall says before after count number =
    TellsPerson says before after count number ⊎ GivesUp before after count number

-- what a call answers, by a command over its inputs
abbrev pub AnswersCall : (Option (List ℕ) → Option (List ℕ) → Status → Type 0) → List ℕ → List ℕ → ℕ
    → ℕ
    → Type 0
AnswersCall says before after count number =
    GivesCall says before after count number ⊎ GivesUp before after count number
