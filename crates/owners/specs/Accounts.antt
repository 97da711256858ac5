-- Interrupts on the accounts of the teams that say them.
use Rattle.std.specs.Prelude.{◌≡◌, ℕ, ◌+◌, ◌==◌, nat_lt, Bool, true, false, List, [], ◌∷◌, ◌++◌, flat_map, length, position, Option, Some, None, unwrap_or, if◌then◌else◌}
use Rattle.task_sheet.specs.declared.node.TheConstants.{INTERRUPT_LIMIT}
use Rattle.task_sheet.specs.declared.node.Interrupt.{Interrupt}
use Rattle.task_sheet.specs.Sheet.{Task, interrupted}
use Rattle.task_sheet.specs.Demand.{interrupts_within}
use Rattle.owners.specs.Owners.{has_task, interrupt_team}
use Rattle.task_lines.specs.declared.owner.Owner.{Owner}

-- the task on whose account a team's interrupts are: the first of its tasks; the first of all, where it has none
abbrev pub account_by : List Owner → List Task → Option (List ℕ) → ℕ
account_by owners U None = 0
account_by owners U (Some team) = unwrap_or (position (has_task owners team) U) 0

-- that of the interrupt at a place among all
abbrev pub account_of : List Owner → List Task → (place : ℕ) → ℕ
account_of owners U place = account_by owners U (interrupt_team owners place)

-- an interrupt, if it is on a task's account
abbrev pub own_if : Bool → Interrupt → List Interrupt
own_if true x = x ∷ []
own_if false x = []

-- those of some, of which the first stands at a place among all, that are
abbrev pub own_from : List Owner → List Task → (task place : ℕ) → List Interrupt → List Interrupt
own_from owners U task place [] = []
own_from owners U task place (x ∷ xs) =
    own_if (account_of owners U place == task) x ++ own_from owners U task (place + 1) xs

-- the tasks from one on, each with its own of these interrupts
abbrev pub accounted_from : List Owner → List Task → List Interrupt → (task : ℕ) → List Task → List Task
accounted_from owners U xs task [] = []
accounted_from owners U xs task (t ∷ ts) =
    interrupted t (own_from owners U task 0 xs) ∷ accounted_from owners U xs (task + 1) ts

-- the interrupts on the accounts of tasks: of a set that is read all are on that of one, the first before it was preferred
abbrev pub interrupts_on : List Task → List Interrupt
interrupts_on U = flat_map (λ t. t.interrupts) U

-- the tasks of a set, its interrupts on the accounts of their teams; as they are where these are more than one task may have
abbrev pub accounted : List Owner → List Task → List Task
accounted owners U =
    if nat_lt INTERRUPT_LIMIT (length (interrupts_on U)) then U
    else accounted_from owners U (interrupts_on U) 0 U

-- whose account they are on changes nothing of what they take
abbrev pub AccountsKeepTime : Type 0
AccountsKeepTime =
    (owners : List Owner) (U : List Task) (time : ℕ)
    → interrupts_within (accounted owners U) time ≡ interrupts_within U time
