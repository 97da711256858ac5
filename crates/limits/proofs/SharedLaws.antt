-- A node that takes less of one thing takes no order away.
use Rattle.std.proofs.Common.{◌≡◌, ◌↔◌, ℕ, ◌<◌, ◌≤◌, inl, inr, List, Option, Some, None, arith}
use Rattle.std.proofs.lemmas.Bool.{cases_lt}
use Rattle.task_sheet.specs.declared.node.Node.{Node}
use Rattle.task_sheet.proofs.Common.{Task, AreOverheads, IsTaskSet}
use Rattle.overheads.specs.Padding.{padded, IsLighter}
use Rattle.overheads.proofs.PaddedSets.{fault-lighter}
use Rattle.limits.specs.declared.shared.Shared.{Shared}
use Rattle.limits.specs.declared.shared.Shared.TheVariants.{Job, Lock, Release, Late}
use Rattle.limits.specs.InOrder.{PassesIn}
use Rattle.limits.specs.Shared.{with_shared, least_shared, most_shared, IsNode, MayTake}
use Rattle.limits.specs.Shared.{IsFurthestShared, AnswersShared}
use Rattle.limits.proofs.NodeLaws.{order-padded, feasible-padded}

lighter-shared : (number : Shared) (node : Node) (low high : ℕ) → low ≤ high
    → IsLighter (with_shared number node low) (with_shared number node high)
lighter-shared Job node low high le =
    record { job = le; lock = omega arith; release = omega arith; late = omega arith }
lighter-shared Lock node low high le =
    record { job = omega arith; lock = le; release = omega arith; late = omega arith }
lighter-shared Release node low high le =
    record { job = omega arith; lock = omega arith; release = le; late = omega arith }
lighter-shared Late node low high le =
    record { job = omega arith; lock = omega arith; release = omega arith; late = le }

-- a document that may say a value may say a lesser one that is not below the least
said-less : (number : Shared) (node : Node) (low high : ℕ) → least_shared number node ≤ low
    → low ≤ high → IsNode (with_shared number node high) → IsNode (with_shared number node low)
said-less Job node low high from le is = record {
  limits = record {
    job = omega (arith, le, is.limits.job);
    lock = is.limits.lock;
    late = is.limits.late;
    release = is.limits.release;
  };
  part = from;
}
said-less Lock node low high from le is = record {
  limits = record {
    job = is.limits.job;
    lock = omega (arith, le, is.limits.lock);
    late = is.limits.late;
    release = is.limits.release;
  };
  part = is.part;
}
said-less Release node low high from le is = record {
  limits = record {
    job = is.limits.job;
    lock = is.limits.lock;
    late = is.limits.late;
    release = omega (arith, le, is.limits.release);
  };
  part = omega (arith, le, is.part);
}
said-less Late node low high from le is = record {
  limits = record {
    job = is.limits.job;
    lock = is.limits.lock;
    late = omega (arith, le, is.limits.late);
    release = is.limits.release;
  };
  part = is.part;
}

-- no document may say a value out of these bounds
pub said-within : (number : Shared) (node : Node) (value : ℕ) → IsNode (with_shared number node value)
    → (least_shared number node ≤ value) × (value ≤ most_shared number)
said-within Job node value is = (is.part, is.limits.job)
said-within Lock node value is = (omega arith, is.limits.lock)
said-within Release node value is = (omega arith, is.limits.release)
said-within Late node value is = (omega arith, is.limits.late)

PassesIn-lighter : (W : List Task) (light heavy : Node) → IsTaskSet W → IsLighter light heavy
    → (order : Option (List ℕ)) → PassesIn order (padded heavy W) → PassesIn order (padded light W)
PassesIn-lighter W light heavy set is (Some order) passes =
    order-padded W light heavy set is order passes
PassesIn-lighter W light heavy set is None passes = feasible-padded W light heavy set is passes

-- with a value the order passes, and a document may say it
abbrev pub Admits : List Task → Node → Shared → Option (List ℕ) → ℕ → Type 0
Admits W node number order value =
    MayTake W (with_shared number node value)
    × PassesIn order (padded (with_shared number node value) W)

module _ (W : List Task) (node : Node) (number : Shared) (order : Option (List ℕ))
    (set : IsTaskSet W) where
  pub admits-less : (low high : ℕ) → least_shared number node ≤ low → low ≤ high
      → Admits W node number order high → Admits W node number order low
  admits-less low high from le admits =
      let is = lighter-shared number node low high le in (
        record {
          said = said-less number node low high from le admits.0.said;
          room = fault-lighter W (with_shared number node low) (with_shared number node high) is
              admits.0.room;
        },
        PassesIn-lighter W (with_shared number node low) (with_shared number node high) set is order
            admits.1,
      )

  pub shared-each : (most value : ℕ) → IsFurthestShared W node number order most
      → MayTake W (with_shared number node value)
      → PassesIn order (padded (with_shared number node value) W) ↔ (value ≤ most)
  shared-each most value is may = (
    is.furthest value may,
    λ le. (admits-less value most (said-within number node value may.said).0 le
        (is.may, is.passes)).1,
  )

  -- none where the least one doesn't
  pub none-admits : ¬ Admits W node number order (least_shared number node) → AnswersShared W node number order None
  none-admits fails value may passes =
      let bounds = said-within number node value may.said in
      fails (admits-less (least_shared number node) value (omega arith) bounds.0 (may, passes))

  -- the last one that does, up to the greatest of all
  pub last-admits : (value : ℕ) → Admits W node number order value
      → ((more : ℕ) → value < more → more ≤ most_shared number
      → ¬ Admits W node number order more)
      → AnswersShared W node number order (Some value)
  last-admits value admits fails = record {
    may = admits.0;
    passes = admits.1;
    furthest = λ other may passes. elim (cases_lt value other) [
      | inl lt ↦ absurd (fails other lt (said-within number node other may.said).1 (may, passes))
      | inr le ↦ le
    ];
  }

pub shared-one : (W : List Task) (node : Node) (number : Shared) (order : Option (List ℕ))
    (first second : ℕ) → IsFurthestShared W node number order first
    → IsFurthestShared W node number order second → first ≡ second
shared-one W node number order first second f s =
    omega (arith, s.furthest first f.may f.passes, f.furthest second s.may s.passes)

-- a value up to the greatest of all leaves a node within the limits
pub within-shared : (number : Shared) (node : Node) (value : ℕ) → AreOverheads node
    → value ≤ most_shared number → AreOverheads (with_shared number node value)
within-shared Job node value is le =
    record { job = le; lock = is.lock; late = is.late; release = is.release }
within-shared Lock node value is le =
    record { job = is.job; lock = le; late = is.late; release = is.release }
within-shared Release node value is le =
    record { job = is.job; lock = is.lock; late = is.late; release = le }
within-shared Late node value is le =
    record { job = is.job; lock = is.lock; late = le; release = is.release }
