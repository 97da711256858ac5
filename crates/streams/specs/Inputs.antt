-- What was read of an input.
use Rattle.std.specs.Prelude.{◌≡◌, ◌⊎◌, ℕ, ◌+◌, ◌*◌, ◌^◌, ◌<◌, ◌≤◌, true, List, length, Option, IfSome}
use Rattle.streams.specs.Watching.{WatchedData}
use Rattle.streams.specs.declared.input.TheConstants.{INPUT_LIMIT, TURN_LIMIT}

-- the bytes are all that a reader had, where it says what it has, and no more than so many
pub record IsReadUpTo (most : ℕ) (known : Option (List ℕ)) (bytes : List ℕ) : Type 0 where
  pub whole : IfSome known (λ all. bytes ≡ all)
  pub within : length bytes ≤ most

-- the reader had more
abbrev pub IsLonger : (most : ℕ) → Option (List ℕ) → Type 0
IsLonger most known = IfSome known (λ all. most < length all)

-- the same of an input that is no trace
abbrev pub IsReadFrom : Option (List ℕ) → List ℕ → Type 0
IsReadFrom known bytes = IsReadUpTo INPUT_LIMIT known bytes

abbrev pub IsTooLong : Option (List ℕ) → Type 0
IsTooLong known = IsLonger INPUT_LIMIT known

-- a read has failed or was interrupted
abbrev pub IsDisturbed : {T : Type 0} → WatchedData T → Type 0
IsDisturbed w = (w.has_failed ≡ true) ⊎ (w.was_interrupted ≡ true)

-- the most reads of an input of so many bytes: twice as many as these and their end need at most
abbrev pub turns_for : (most : ℕ) → ℕ
turns_for most = 2 * (most + 1)

-- an input is read in at most 2,147,483,650 reads, as many as a trace may take
abbrev pub IsWithinTurns : {T : Type 0} → WatchedData T → WatchedData T → Type 0
IsWithinTurns old new = new.reads ≤ old.reads + TURN_LIMIT

-- all reads of an input of so many bytes were made, where the counter has room for them
abbrev pub AreTurnsSpent : {T : Type 0} → (most : ℕ) → WatchedData T → WatchedData T → Type 0
AreTurnsSpent most old new = old.reads + turns_for most < 2 ^ 64 → new.reads ≡ old.reads + turns_for most
