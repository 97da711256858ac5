-- What a team takes of a node, beside what it may take.
use Rattle.std.specs.Prelude.{◌≡◌, ℕ, ◌*◌, ◌≤◌, nat_lt, Bool, true, ◌&&◌, not, List, [], ◌∷◌, ◌++◌, map, All, Option, Some, None, if◌then◌else◌}
use Rattle.std.specs.List.{list_any}
use Rattle.std.specs.Option.{option_or}
use Rattle.task_sheet.specs.Sheet.{CriticalSection, IsInterrupt, Task, same_bytes}
use Rattle.task_sheet.specs.Demand.{greatest_of}
use Rattle.task_sheet.specs.Locks.{shares_lock}
use Rattle.task_sheet.specs.declared.node.Interrupt.{Interrupt}
use Rattle.teams.specs.Owned.{OwnedData, TeamSetData, owned_all}
use Rattle.loads.specs.Shares.{costs_of, load_in, periods_of}
use Rattle.loads.specs.declared.shares.Share.{Share}
use Rattle.teams.specs.declared.node.Budget.{Budget}
use Rattle.teams.specs.declared.node.Quantity.TheVariants.{Load, Section}
use Rattle.teams.specs.declared.fault.TeamsFault.{TeamsFault}
use Rattle.teams.specs.declared.fault.TeamsFault.TheVariants.{NoSuchTeam, PastBudget}

-- ---- what a team takes
-- what a task takes: its cost in each period, as it is written
abbrev pub task_share : Task → Share
task_share t = record { cost = t.cost; period = t.period }

-- and an interrupt
abbrev pub interrupt_share : Interrupt → Share
interrupt_share x = record { cost = x.cost; period = x.period }

-- the shares of a document: of its tasks and its interrupts
abbrev pub shares_in : TeamSetData → List Share
shares_in s = map task_share s.set ++ map interrupt_share s.interrupts

-- those of a team's documents, whose load is ∑ costᵢ / periodᵢ (Liu and Layland 1973)
abbrev pub shares_by : List TeamSetData → List ℕ → List Share
shares_by [] team = []
shares_by (s ∷ sets) team = (if same_bytes s.team team then shares_in s else []) ++ shares_by sets team

-- the interrupts of each document are within the limits
abbrev pub AreSound : List TeamSetData → Type 0
AreSound sets = All (λ s. All IsInterrupt s.interrupts) sets

-- a task of another team uses one of the section's locks
abbrev pub is_shared : List OwnedData → List ℕ → CriticalSection → Bool
is_shared tasks team s = list_any (λ o. not (same_bytes o.team team) && shares_lock o.sheet s) tasks

-- the longest section of a task that is shared so; 0 of none
abbrev pub longest_of : List OwnedData → List ℕ → Task → ℕ
longest_of tasks team t = greatest_of (λ s. if is_shared tasks team s then s.len else 0) t.sections

-- that of all tasks of a team
abbrev pub longest_shared : List OwnedData → List ℕ → ℕ
longest_shared tasks team =
    greatest_of (λ o. if same_bytes o.team team then longest_of tasks team o.sheet else 0) tasks

-- a team has a document
abbrev pub has_team : List TeamSetData → List ℕ → Bool
has_team sets team = list_any (λ s. same_bytes s.team team) sets

-- ---- beside its budget
-- ∑ costᵢ / periodᵢ > limit / 1000, cleared of the denominators
abbrev pub is_load_past : List Share → ℕ → Bool
is_load_past shares limit = nat_lt (limit * periods_of shares) (costs_of shares * 1000)

-- the load in thousandths, rounded up once
abbrev pub thousandths_of : List Share → ℕ
thousandths_of shares = load_in 1000 shares

-- a load is past its limit, where there is one
abbrev pub load_fault : List ℕ → List Share → Option ℕ → Option TeamsFault
load_fault team shares None = None
load_fault team shares (Some limit) =
    if is_load_past shares limit then Some (PastBudget team Load (thousandths_of shares) limit) else None

-- a section is past its limit, where there is one
abbrev pub section_fault : List ℕ → ℕ → Option ℕ → Option TeamsFault
section_fault team len None = None
section_fault team len (Some limit) =
    if nat_lt limit len then Some (PastBudget team Section len limit) else None

-- which of a budget's limits a team is past: that of its load, then that of its longest shared section
unfoldable pub limits_fault : List TeamSetData → Budget → Option TeamsFault
limits_fault sets b =
    option_or (load_fault b.team (shares_by sets b.team) b.load)
    (section_fault b.team (longest_shared (owned_all sets) b.team) b.section)

-- why a team doesn't keep to its budget: it has no document, or is past a limit
unfoldable pub budget_fault : List TeamSetData → Budget → Option TeamsFault
budget_fault sets b =
    if has_team sets b.team then limits_fault sets b else Some (NoSuchTeam b.team)

-- the first budget to which its team doesn't keep, and why
abbrev pub budgets_fault : List TeamSetData → List Budget → Option TeamsFault
budgets_fault sets [] = None
budgets_fault sets (b ∷ budgets) = option_or (budget_fault sets b) (budgets_fault sets budgets)

-- ---- to keep to a budget
-- at most a limit, where there is one
abbrev pub IsAtMost : ℕ → Option ℕ → Type 0
IsAtMost number None = Unit {0}
IsAtMost number (Some limit) = number ≤ limit

-- ∑ costᵢ / periodᵢ ≤ limit / 1000, cleared of the denominators
abbrev pub IsLoadAtMost : List Share → Option ℕ → Type 0
IsLoadAtMost shares None = Unit {0}
IsLoadAtMost shares (Some limit) = costs_of shares * 1000 ≤ limit * periods_of shares

-- a team keeps to its budget
pub record IsWithin (sets : List TeamSetData) (b : Budget) : Type 0 where
  pub known : has_team sets b.team ≡ true
  pub load : IsLoadAtMost (shares_by sets b.team) b.load
  pub section : IsAtMost (longest_shared (owned_all sets) b.team) b.section
