-- What `desk play` answers and prints.
use Rattle.std.specs.Prelude.{◌≡◌, ◌⊎◌, ℕ, List, ◌++◌, Option, Result, Ok, Err}
use Rattle.std.specs.Global.{Vec}
use Rattle.std.specs.Io.KnownBytes.{Appends}
use Rattle.desk_core.specs.World.{start}
use Rattle.scripts.specs.declared.line.Line.{Line}
use Rattle.scripts.specs.Script.{IsFault, script_in}
use Rattle.plays.specs.Plays.{PlaysAll, PlaysSome}
use Rattle.streams.specs.Inputs.{IsReadFrom, IsTooLong}
use Rattle.answering.specs.Refusals.{refusal_line, status_of}
use Rattle.streams.specs.declared.input.InputFault.TheVariants as input
use Rattle.answering.specs.declared.refusal.CommandRefusal.{CommandRefusal}
use Rattle.answering.specs.declared.refusal.CommandRefusal.TheVariants as refusal
use Rattle.answering.specs.declared.status.Status.{Status}
use Rattle.answering.specs.declared.status.Status.TheVariants as status

-- the bytes that a reader has are a script of these lines
abbrev pub IsScript : Option (List ℕ) → List Line → Type 0
IsScript known lines = (bytes : List ℕ) × IsReadFrom known bytes × (script_in bytes ≡ Ok lines)

-- the answer on what a reader has: the lines of the script that its bytes say, or the first fault of its bytes
abbrev pub Scripts : Option (List ℕ) → Result (Vec Line) CommandRefusal → Type 0
Scripts known (Ok lines) = IsScript known lines.items
Scripts known (Err (refusal.Script fault)) =
    (bytes : List ℕ) × IsReadFrom known bytes × IsFault fault (script_in bytes)
Scripts known (Err (refusal.Input input.TooLong)) = IsTooLong known
Scripts known (Err (refusal.Input _)) = Unit {0}
Scripts known _ = ⊥

-- the script was refused, and nothing of it was played
abbrev pub IsRefused : Option (List ℕ) → List ℕ → Status → Type 0
IsRefused known text s =
    (refusal : CommandRefusal) × Scripts known (Err refusal) × (text ≡ refusal_line refusal)
    × (s ≡ status_of refusal)

-- all lines were played from an empty desk on, and the book was printed; or memory ran out after some of them
abbrev pub IsPlay : List Line → List ℕ → Status → Type 0
IsPlay lines text s =
    (PlaysAll start lines text × (s ≡ status.Done))
    ⊎ ((played : List ℕ) × PlaysSome start lines played
    × (text ≡ played ++ refusal_line refusal.OutOfMemory) × (s ≡ status_of refusal.OutOfMemory))

-- what is printed after what the writer held
abbrev pub SaysPlayed : Option (List ℕ) → Option (List ℕ) → Option (List ℕ) → Status → Type 0
SaysPlayed known before after s =
    (text : List ℕ) × Appends before after text
    × (IsRefused known text s ⊎ ((lines : List Line) × IsScript known lines × IsPlay lines text s))
