-- What became of a command: of its inputs, of what it printed, and of its status.
use Rattle.std.specs.Prelude.{◌≡◌, ◌⊎◌, ℕ, true, false, List, Option, Some, Result, Err}
use Rattle.std.specs.Io.KnownBytes.{Appends}
use Rattle.streams.specs.Watching.{WatchedData}
use Rattle.streams.specs.Inputs.{IsDisturbed, IsTooLong, IsWithinTurns}
use Rattle.streams.specs.declared.input.InputFault.TheVariants.{ReadFailed}
use Rattle.answering.specs.declared.refusal.CommandRefusal.{CommandRefusal}
use Rattle.answering.specs.declared.refusal.CommandRefusal.TheVariants.{Input}
use Rattle.answering.specs.declared.status.Status.{Status}
use Rattle.answering.specs.declared.status.Status.TheVariants.{InputOrOutputFailed}

-- the refusal of an input of which a read failed
abbrev pub failed_read : CommandRefusal
failed_read = Input ReadFailed

-- an input was read within its turns for an answer; where a read failed the answer is this error,
-- which comes only where a read failed or was interrupted
pub record IsRead {T E R : Type 0} (error : E) (old new : WatchedData R) (answer : Result T E)
    : Type 0 where
  pub failed : answer ≡ Err error → IsDisturbed new
  pub answered : old.has_failed ≡ false → new.has_failed ≡ true → answer ≡ Err error
  pub turns : IsWithinTurns old new

-- the same of two inputs, of which the first is read first: where it is too long, or a read of it
-- failed, nothing is read of the second
pub record AreRead {T E R S : Type 0} (error : E) (has : R → Option (List ℕ))
    (first first' : WatchedData R) (second second' : WatchedData S) (answer : Result T E)
    : Type 0 where
  pub failed : answer ≡ Err error → IsDisturbed first' ⊎ IsDisturbed second'
  pub answered : first.has_failed ≡ false → second.has_failed ≡ false
      → (first'.has_failed ≡ true) ⊎ (second'.has_failed ≡ true) → answer ≡ Err error
  pub turns : IsWithinTurns first first' × IsWithinTurns second second'
  pub first_too_long : (all : List ℕ) → has first.inner ≡ Some all → IsTooLong (Some all)
      → second' ≡ second
  pub first_failed : first.has_failed ≡ false → first'.has_failed ≡ true → second' ≡ second

-- a text was printed after what the writer held, with the status that belongs to it; where the
-- writer has failed, with that of a failed output
pub record IsPrintedOn {W : Type 0} (holds : W → Option (List ℕ)) (old new : WatchedData W)
    (text : List ℕ) (done s : Status) : Type 0 where
  pub printed : new.has_failed ≡ false → Appends (holds old.inner) (holds new.inner) text
  pub status : new.has_failed ≡ false → s ≡ done
  pub failed : s ≡ InputOrOutputFailed
      → (done ≡ InputOrOutputFailed) ⊎ (new.has_failed ≡ true)
  pub unwritten : old.has_failed ≡ false → new.has_failed ≡ true → s ≡ InputOrOutputFailed

-- what is said was printed with its status, which is that of a failed output where the writer has
-- failed, and only there
pub record IsSaidOn {W : Type 0} (says : (before after : Option (List ℕ)) → Status → Type 0)
    (holds : W → Option (List ℕ)) (old new : WatchedData W) (s : Status) : Type 0 where
  pub printed : new.has_failed ≡ false → says (holds old.inner) (holds new.inner) s
  pub failed : s ≡ InputOrOutputFailed → new.has_failed ≡ true
  pub unwritten : old.has_failed ≡ false → new.has_failed ≡ true → s ≡ InputOrOutputFailed

-- a command on one input was carried out: what it says of what the reader had was printed with its
-- status, unless the writer has failed; the status is that of a failed input or output where a read
-- or a write failed, and only there or where a read was interrupted; and the input was read within
-- its turns
pub record IsCarriedOut {R W : Type 0}
    (says : Option (List ℕ) → (before after : Option (List ℕ)) → Status → Type 0)
    (has : R → Option (List ℕ)) (holds : W → Option (List ℕ))
    (input input' : WatchedData R) (output output' : WatchedData W) (s : Status) : Type 0 where
  pub printed : output'.has_failed ≡ false
      → says (has input.inner) (holds output.inner) (holds output'.inner) s
  pub failed : s ≡ InputOrOutputFailed → IsDisturbed input' ⊎ (output'.has_failed ≡ true)
  pub unread : input.has_failed ≡ false → input'.has_failed ≡ true → output.has_failed ≡ false
      → s ≡ InputOrOutputFailed
  pub unwritten : output.has_failed ≡ false → output'.has_failed ≡ true → s ≡ InputOrOutputFailed
  pub turns : IsWithinTurns input input'

-- the same of a command on two inputs, of which the first is read first: where it is too long, or
-- where a read of it failed, nothing is read of the second
pub record IsCarriedOutOnBoth {R S W : Type 0}
    (says : (first second : Option (List ℕ)) → (before after : Option (List ℕ)) → Status → Type 0)
    (has : R → Option (List ℕ)) (has' : S → Option (List ℕ)) (holds : W → Option (List ℕ))
    (first first' : WatchedData R) (second second' : WatchedData S)
    (output output' : WatchedData W) (s : Status) : Type 0 where
  pub printed : output'.has_failed ≡ false
      → says (has first.inner) (has' second.inner) (holds output.inner) (holds output'.inner) s
  pub failed : s ≡ InputOrOutputFailed
      → IsDisturbed first' ⊎ (IsDisturbed second' ⊎ (output'.has_failed ≡ true))
  pub unread : first.has_failed ≡ false → second.has_failed ≡ false
      → (first'.has_failed ≡ true) ⊎ (second'.has_failed ≡ true) → output.has_failed ≡ false
      → s ≡ InputOrOutputFailed
  pub unwritten : output.has_failed ≡ false → output'.has_failed ≡ true → s ≡ InputOrOutputFailed
  pub turns : IsWithinTurns first first' × IsWithinTurns second second'
  pub first_too_long : (all : List ℕ) → has first.inner ≡ Some all → IsTooLong (Some all)
      → second' ≡ second
  pub first_failed : first.has_failed ≡ false → first'.has_failed ≡ true → second' ≡ second
