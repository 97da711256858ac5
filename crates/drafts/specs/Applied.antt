-- The tasks on the node, by rank, each with its team, and the node's interrupts, each with the team that said it; and
-- what a team's changes make of them.
use Rattle.std.specs.Prelude.{ℕ, Bool, true, false, ◌==◌, not, nat_le, List, [], ◌∷◌, ◌++◌, length, filter, find, map, Option, None, Some, Result, Ok, Err, if◌then◌else◌, slice_get, nat_lt}
use Rattle.std.specs.Option.{option_map_or}
use Rattle.std.specs.Ordering.{is_lt}
use Rattle.task_sheet.specs.Sheet.{Task, interrupted, same_bytes}
use Rattle.task_sheet.specs.Rank.{rank_cmp}
use Rattle.task_sheet.specs.declared.node.Interrupt.{Interrupt}
use Rattle.task_sheet.specs.declared.node.TheConstants.{INTERRUPT_LIMIT}
use Rattle.task_sheet.specs.declared.set.TheConstants.{TASK_LIMIT}
use Rattle.overheads.specs.Padding.{charged}
use Rattle.drafts.specs.declared.roster.Owned.{Owned}
use Rattle.drafts.specs.declared.change.Change.{Change}
use Rattle.drafts.specs.declared.change.Change.TheVariants.{Put, Remove}
use Rattle.drafts.specs.declared.change.Refusal.{Refusal}
use Rattle.drafts.specs.declared.change.Refusal.TheVariants.{NotYours, NoSuchTask, TooManyTasks, TooManyInterrupts}
use Rattle.drafts.specs.declared.interrupts.TeamInterrupt.{TeamInterrupt}

-- what stands on the node: tasks without interrupts on their accounts, and the interrupts
pub record OnNode : Type 0 where
  pub tasks : List Owned
  pub interrupts : List TeamInterrupt

-- the sheets of tasks
abbrev pub sheets_of : List Owned → List Task
sheets_of tasks = map (λ o. o.sheet) tasks

-- the interrupts, whoever said them
abbrev pub said_of : List TeamInterrupt → List Interrupt
said_of interrupts = map (λ x. x.interrupt) interrupts

-- the set to be analysed: the tasks with all interrupts, on the account of the first by rank
abbrev pub set_of : OnNode → List Task
set_of node = charged (said_of node.interrupts) (sheets_of node.tasks)

-- the sheet without interrupts on its account
abbrev pub bare : Task → Task
bare s = interrupted s []

-- the task has this name
abbrev pub bears_name : List ℕ → Owned → Bool
bears_name name o = same_bytes o.sheet.name name

-- the task of that name, with its team
abbrev pub held : List ℕ → List Owned → Option Owned
held name tasks = find (bears_name name) tasks

-- the tasks of other names
abbrev pub without_name : List ℕ → List Owned → List Owned
without_name name tasks = filter (λ o. not (bears_name name o)) tasks

-- the task stands before the first that isn't of lesser rank
abbrev pub placed : Owned → List Owned → List Owned
placed o [] = o ∷ []
placed o (x ∷ xs) = if is_lt (rank_cmp x.sheet o.sheet) then x ∷ placed o xs else o ∷ x ∷ xs

-- the name gets the sheet and the team
abbrev pub with_task : List ℕ → Owned → List Owned → List Owned
with_task name o tasks = placed o (without_name name tasks)

-- another team holds the name
abbrev pub is_foreign : ℕ → Option Owned → Bool
is_foreign team None = false
is_foreign team (Some o) = not (o.team == team)

-- some team holds the name
abbrev pub is_there : Option Owned → Bool
is_there None = false
is_there (Some o) = true

-- the tasks after one change of a team
abbrev pub after_change : ℕ → List Owned → List ℕ → Change → Result (List Owned) Refusal
after_change team tasks name (Put sheet) =
    if is_foreign team (held sheet.name tasks) then Err (NotYours sheet.name)
    else Ok (with_task sheet.name (record { sheet = bare sheet; team = team }) tasks)
after_change team tasks name Remove =
    if is_foreign team (held name tasks) then Err (NotYours name)
    else (if is_there (held name tasks) then Ok (without_name name tasks)
    else Err (NoSuchTask name))

-- the team at that place is this one
abbrev pub is_team_at : ℕ → List ℕ → ℕ → Bool
is_team_at team teams i = option_map_or (λ t. t == team) (slice_get teams i) false

-- the teams of the tasks
abbrev pub teams_of : List Owned → List ℕ
teams_of tasks = map (λ o. o.team) tasks

-- the interrupts that other teams said
abbrev pub of_others : ℕ → List TeamInterrupt → List TeamInterrupt
of_others team interrupts = filter (λ x. not (x.team == team)) interrupts

-- the team says these, but for those that take nothing
abbrev pub said_by : ℕ → List Interrupt → List TeamInterrupt
said_by team xs = map (λ x. record { interrupt = x; team = team }) (filter (λ x. nat_lt 0 x.cost) xs)

-- a team that says interrupts has these from then on, and no others; those of other teams stay
abbrev pub after_saying : ℕ → List TeamInterrupt → List Interrupt → List TeamInterrupt
after_saying team interrupts [] = interrupts
after_saying team interrupts (x ∷ xs) = of_others team interrupts ++ said_by team (x ∷ xs)

-- the interrupts after one change of a team: a put may say some, and a remove takes none along
abbrev pub interrupts_with : ℕ → List TeamInterrupt → Change → List TeamInterrupt
interrupts_with team interrupts (Put sheet) = after_saying team interrupts sheet.interrupts
interrupts_with team interrupts Remove = interrupts

-- the interrupts after a team's changes, in their order
abbrev pub interrupts_after : ℕ → List TeamInterrupt → List (List ℕ × Change) → List TeamInterrupt
interrupts_after team interrupts [] = interrupts
interrupts_after team interrupts (c ∷ changes) =
    interrupts_after team (interrupts_with team interrupts c.1) changes

-- no more tasks and interrupts stand on the node than a set may have
abbrev pub if_few : List TeamInterrupt → List Owned → Result OnNode Refusal
if_few interrupts tasks =
    if nat_le (length tasks) TASK_LIMIT then
    (if nat_le (length interrupts) INTERRUPT_LIMIT then
    Ok (record { tasks = tasks; interrupts = interrupts })
    else Err TooManyInterrupts)
    else Err TooManyTasks

-- what follows where nothing was refused
abbrev pub then_on : {B : Type 0} → Result (List Owned) Refusal → (List Owned → Result B Refusal)
    → Result B Refusal
then_on (Err refusal) f = Err refusal
then_on (Ok tasks) f = f tasks

-- the tasks after a team's changes, by name, in their order; the first that is refused decides
abbrev pub all_changes : ℕ → List Owned → List (List ℕ × Change) → Result (List Owned) Refusal
all_changes team tasks [] = Ok tasks
all_changes team tasks (c ∷ changes) =
    then_on (after_change team tasks c.0 c.1) (λ next. all_changes team next changes)

-- what a team's changes come to: what stands on the node then, or the first refusal
abbrev pub applied : ℕ → OnNode → List (List ℕ × Change) → Result OnNode Refusal
applied team node changes =
    then_on (all_changes team node.tasks changes)
    (if_few (interrupts_after team node.interrupts changes))
