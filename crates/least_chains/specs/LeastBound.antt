-- How small a chain's bound could be in any order that passes.
use Rattle.std.specs.Prelude.{◌≡◌, ℕ, ◌-◌, ◌≤◌, ◌==◌, ◌||◌, List, [], ◌∷◌, map, Option, Some, None, if◌then◌else◌}
use Rattle.task_sheet.specs.Sheet.{Task, task_at}
use Rattle.task_sheet.specs.Indexes.{Indexes, among}
use Rattle.task_sheet.specs.Demand.{IsResponseOf}
use Rattle.task_sheet.specs.Orders.{IsPassingOrder}
use Rattle.assignment.specs.Places.{PlaceData}
use Rattle.assignment.specs.declared.placing.Placing.{Placing}
use Rattle.assignment.specs.declared.placing.Placing.TheVariants.{Best, Stuck}
use Rattle.ceiling_kernel.specs.Tick.{node_in}
use Rattle.ceiling_kernel.specs.Waits.{lateness_of}
use Rattle.chains.specs.Parts.{after_of, afters_of, order_of, time_in}
use Rattle.chains.specs.Walks.{bound_by, steps_with}
use Rattle.chains.specs.declared.bounds.Level.{Level}
use Rattle.chains.specs.declared.bounds.Writes.{Writes}

-- ---- an order that passes, with its responses
-- task i has this response with the tasks H above it
abbrev pub HasResponse : List Task → ℕ → Indexes → Option ℕ → Type 0
HasResponse U i H None = ⊥
HasResponse U i H (Some response) = IsResponseOf U i H response

-- each level has that of its task below those after it
abbrev pub HaveResponses : List Task → List Level → Type 0
HaveResponses U [] = Unit {0}
HaveResponses U (l ∷ levels) =
    HasResponse U l.task (among (order_of levels)) l.response × HaveResponses U levels

-- the levels of such an order
pub record ArePassing (U : List Task) (levels : List Level) : Type 0 where
  pub order : IsPassingOrder U (order_of levels)
  pub each : HaveResponses U levels

-- the levels of places
abbrev pub levels_at : List PlaceData → List Level
levels_at places = map (λ p. record { task = p.task; response = Some p.response }) places

-- those of the order of a placing; none where no order passes
abbrev pub levels_of : Placing → List Level
levels_of (Best places) = levels_at places.items
levels_of (Stuck left) = []

-- ---- the least part of a task
-- how long the part behind its wait is, where it stands in front of these others
abbrev pub part_in : Writes → List Task → List Level → ℕ → (others : List ℕ) → ℕ
part_in writes U levels i others =
    (after_of writes (node_in U (order_of levels)) (time_in levels) i others).time

-- those of a chain's tasks
abbrev pub parts_in : Writes → List Task → List Level → (tasks : List ℕ) → List ℕ
parts_in writes U levels tasks =
    map (λ p. p.time) (afters_of writes (node_in U (order_of levels)) (time_in levels) tasks)

-- in some order that passes that part is so long, and in none it is less
pub record IsLeastPart (writes : Writes) (U : List Task) (i : ℕ) (others : List ℕ) (time : ℕ) : Type 0 where
  pub reached : (levels : List Level) × ArePassing U levels × (part_in writes U levels i others ≡ time)
  pub least : (levels : List Level) → ArePassing U levels → time ≤ part_in writes U levels i others

-- what it comes to at the task's finish, where the tasks H stand above in each order that passes, with this response: that,
-- less the next one's cost; the jitter where the next one need not stand above
abbrev pub least_time : List Task → ℕ → Indexes → (response : ℕ) → (others : List ℕ) → ℕ
least_time U i H response [] = response
least_time U i H response (c ∷ others) =
    if (c == i) || H c then response - (task_at U c).cost else lateness_of (task_at U i)

-- ---- the least bound of a chain
-- each of these tasks has that least part in front of those behind it
abbrev pub AreLeastParts : Writes → List Task → (tasks parts : List ℕ) → Type 0
AreLeastParts writes U [] parts = parts ≡ []
AreLeastParts writes U (i ∷ others) [] = ⊥
AreLeastParts writes U (i ∷ others) (part ∷ parts) =
    IsLeastPart writes U i others part × AreLeastParts writes U others parts

-- the bound that these come to; none where there is none
pub record IsLeastBound (writes : Writes) (offsets : List ℕ) (U : List Task) (tasks : List ℕ)
    (bound : Option ℕ)
    : Type 0 where
  pub parts : List ℕ
  pub least : AreLeastParts writes U tasks parts
  pub comes : bound_by (steps_with U offsets parts tasks) ≡ bound
