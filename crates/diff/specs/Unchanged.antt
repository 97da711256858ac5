-- Changes of which no line speaks.
use Rattle.std.specs.Prelude.{◌≡◌, ◌<◌, ℕ, Bool, true, false, List, length, slice_get, Option, Some}
use Rattle.task_sheet.specs.Sheet.{Task, task_at, same_node}
use Rattle.task_sheet.specs.declared.node.Interrupt.{Interrupt}
use Rattle.task_sheet.specs.declared.node.TheConstants.{INTERRUPT_LIMIT}
use Rattle.task_sheet.specs.declared.prefer.Preference.{Preference}
use Rattle.owners.specs.Owners.{interrupt_words}
use Rattle.task_lines.specs.declared.owner.Owner.{Owner}
use Rattle.assignment.specs.declared.placing.Placing.{Placing}
use Rattle.diff.specs.Keys.{is_changed}
use Rattle.diff.specs.ChangeLines.{index_in}
use Rattle.diff.specs.Seats.{seat_of}
use Rattle.diff.specs.Whole.{both_weigh, interrupts_of, node_of, other_of, same_preference, same_some}
use Rattle.diff.specs.declared.seats.Seat.{Seat}

-- the same level and the same bound, where some order passes before and after
abbrev pub IsSameSeat : Option Seat → Option Seat → Type 0
IsSameSeat (Some old) (Some new) = (old.level ≡ new.level) × (old.bound ≡ new.bound)
IsSameSeat _ _ = Unit {0}

-- a new task that was there before, whose sheet says the same, at the same level with the same bound
pub record IsKept (weighs : Bool) (U : List Task) (P : Placing) (V : List Task) (Q : Placing)
    (task : ℕ) : Type 0 where
  pub before : ℕ
  pub index : index_in U V task ≡ Some before
  pub sheet : is_changed weighs (task_at U before) (task_at V task) ≡ false
  pub seat : IsSameSeat (seat_of U P before) (seat_of V Q task)

-- the new set's interrupts were there before, with the same numbers, and none is gone; each by its team and its place there
pub record AreKept (old : List Owner) (U : List Task) (new : List Owner) (V : List Task) : Type 0 where
  pub came : (place : ℕ) (y : Interrupt) → place < INTERRUPT_LIMIT
      → slice_get (interrupts_of V) place ≡ Some y
      → same_some (other_of old U place (interrupt_words new place)) (Some y) ≡ true
  pub gone : (place : ℕ) (x : Interrupt) → place < INTERRUPT_LIMIT
      → slice_get (interrupts_of U) place ≡ Some x
      → (y : Interrupt) × (other_of new V place (interrupt_words old place) ≡ Some y)

-- one preference, one node, and the same interrupts; no task is gone, and each of the new set is kept
pub record IsUnchanged (old : Preference) (was : List Owner) (U : List Task) (P : Placing)
    (new : Preference) (is : List Owner) (V : List Task) (Q : Placing) : Type 0 where
  pub preference : same_preference old new ≡ true
  pub node : same_node (node_of U) (node_of V) ≡ true
  pub interrupts : AreKept was U is V
  pub none_gone : (task : ℕ) → task < length U → (after : ℕ) × (index_in V U task ≡ Some after)
  pub all_kept : (task : ℕ) → task < length V → IsKept (both_weigh old new) U P V Q task
