-- A set with what the node takes has the same ranks, and is a set where there is room for it.
use Rattle.std.proofs.Common.{◌≡◌, ℕ, ◌<◌, ◌≤◌, Option, Some, None, IfSome, List, [], ◌∷◌}
use Rattle.std.proofs.Common.{length, refl, ◌∙◌, ap, arith}
use Rattle.std.specs.List.{AllByRecursion}
use Rattle.std.proofs.lemmas.List.Elements.{All-from_recursion, recursion_from_All}
use Rattle.task_sheet.proofs.Common.{Task, AreOverheads, IsValidSheet, no_overhead, no_task}
use Rattle.task_sheet.proofs.Common.{task_at, IsByRank, IsTaskSet}
use Rattle.task_sheet.specs.declared.node.Node.{Node}
use Rattle.task_sheet.proofs.OptionLaws.{option_or-parts}
use Rattle.overheads.specs.Padding.{padded_task, padded, task_fault, padding_fault, padded_by}
use Rattle.overheads.specs.Padding.{fault_by, IsUnpadded, IsLighter}
use Rattle.overheads.proofs.MappedSets.{KeepsRanks, count-mapped, mapped-at, mapped-past}
use Rattle.overheads.proofs.MappedSets.{IsByRank-mapped, set-mapped}
use Rattle.overheads.proofs.PaddedTasks.{room_of, valid-padded, room-lighter, task-none, room-none}

-- ---- ranks
module _ (node : Node) where
  keeps-padded : KeepsRanks (padded_task node)
  keeps-padded = record { ranks = λ x y. refl; names = λ x y. refl }

  pub count-padded : (U : List Task) → length (padded node U) ≡ length U
  count-padded U = count-mapped (padded_task node) U

  pub IsByRank-padded : (U V : List Task) → IsTaskSet U → IsByRank (padded node U) V
      → V ≡ padded node U
  IsByRank-padded U V set by_rank = IsByRank-mapped (padded_task node) keeps-padded U V set by_rank

  -- the task at an index
  pub padded-at : (U : List Task) (k : ℕ) → k < length U
      → task_at (padded node U) k ≡ padded_task node (task_at U k)
  padded-at U k lt = mapped-at (padded_task node) U k lt

  pub padded-past : (U : List Task) (k : ℕ) → length U ≤ k → task_at (padded node U) k ≡ no_task
  padded-past U k past = mapped-past (padded_task node) U k past

-- ---- room
valid-each : (node : Node) (U : List Task) → AreOverheads node → AllByRecursion IsValidSheet U
    → padding_fault node U ≡ None → AllByRecursion IsValidSheet (padded node U)
valid-each node [] limits valid room = tt
valid-each node (t ∷ ts) limits valid room =
    let both = option_or-parts (task_fault node t) (padding_fault node ts) room in
    let own = room_of node t both.0 in (
      valid-padded node t limits valid.0 own.cost own.jitter,
      valid-each node ts limits
          valid.1 both.1,
    )

pub set-padded : (U : List Task) (node : Node) → IsTaskSet U → AreOverheads node
    → padding_fault node U ≡ None → IsTaskSet (padded node U)
set-padded U node set limits room =
    let valid = All-from_recursion IsValidSheet (padded node U)
    (valid-each node U limits (recursion_from_All IsValidSheet U set.valid) room) in
    set-mapped (padded_task node) (keeps-padded node) U set valid

-- the same where there may be no node
pub set-padded_by : (U : List Task) (said : Option Node) → IsTaskSet U → IfSome said AreOverheads
    → fault_by said U ≡ None → IsTaskSet (padded_by said U)
set-padded_by U None set limits room = set
set-padded_by U (Some node) set limits room = set-padded U node set limits room

pub fault-lighter : (U : List Task) (light heavy : Node) → IsLighter light heavy
    → padding_fault heavy U ≡ None → padding_fault light U ≡ None
fault-lighter [] light heavy is none = refl
fault-lighter (t ∷ ts) light heavy is none =
    let both = option_or-parts (task_fault heavy t) (padding_fault heavy ts) none in
    rw (room-lighter light heavy t is both.0) (fault-lighter ts light heavy is both.1)

-- ---- nothing
none-each : (U : List Task) → AllByRecursion (λ t. t.node ≡ no_overhead) U
    → padded no_overhead U ≡ U
none-each [] none = refl
none-each (t ∷ ts) none = ap (λ (y : Task). y ∷ padded no_overhead ts) (task-none t none.0)
    ∙ ap (λ (ys : List Task). t ∷ ys) (none-each ts none.1)

pub padded-none : (U : List Task) → IsUnpadded U → padded no_overhead U ≡ U
padded-none U none = none-each U (recursion_from_All (λ t. t.node ≡ no_overhead) U none)

room-each : (U : List Task) → AllByRecursion IsValidSheet U → padding_fault no_overhead U ≡ None
room-each [] valid = refl
room-each (t ∷ ts) valid = rw (room-none t valid.0) (room-each ts valid.1)

pub fault-none : (U : List Task) → IsTaskSet U → padding_fault no_overhead U ≡ None
fault-none U set = room-each U (recursion_from_All IsValidSheet U set.valid)

pub lightest : (node : Node) → IsLighter no_overhead node
lightest node =
    record { job = omega arith; lock = omega arith; release = omega arith; late = omega arith }
