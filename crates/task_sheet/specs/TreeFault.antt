-- Why a document's tree is no task set: the first reason, in the order of the tests.
use Rattle.std.specs.Prelude.{ℕ, ◌+◌, min, nat_lt, nat_le, Bool, ◌&&◌, List, [], ◌∷◌, length, Option, Some, None, is_some, unwrap_or, option_map, if◌then◌else◌}
use Rattle.std.specs.Option.{option_or}
use Rattle.std.specs.List.{list_all}
use Rattle.toml.specs.Data.{Data, Members, as_str, as_table}
use Rattle.task_sheet.specs.Name.{is_name}
use Rattle.task_sheet.specs.Sheet.{CriticalSection, Task, names_said}
use Rattle.task_sheet.specs.SheetFault.{sheet_fault, outranks_fault}
use Rattle.task_sheet.specs.SheetsFault.{sheets_fault}
use Rattle.task_sheet.specs.Prefer.{preference_of}
use Rattle.task_sheet.specs.Tree.{root_keys, node_keys, interrupt_keys, task_keys, needed_keys, section_keys, needed_section_keys, only_keys, first_missing, value_at, number_at, number_or_zero, text_at, strings_at, outranks_or_none, tables_at, sheet_at, tree_sheets, node_at, interrupt_at}
use Rattle.task_sheet.specs.declared.node.Node.{Node}
use Rattle.task_sheet.specs.declared.node.Interrupt.{Interrupt}
use Rattle.task_sheet.specs.declared.node.TheConstants.{INTERRUPT_FROM, INTERRUPT_LIMIT}
use Rattle.task_sheet.specs.declared.sheet.TheConstants.{PERIOD_FROM, PERIOD_TO}
use Rattle.task_sheet.specs.declared.set.SetCause.{SetCause}
use Rattle.task_sheet.specs.declared.set.SetCause.TheVariants as cause
use Rattle.task_sheet.specs.declared.keys.Key.{Key}
use Rattle.task_sheet.specs.declared.keys.Key.TheVariants as key
use Rattle.task_sheet.specs.declared.read.SetFault.{SetFault}
use Rattle.task_sheet.specs.declared.read.SetFault.TheVariants as fault

-- the fault, where the test fails
abbrev pub unless : Bool → SetFault → Option SetFault
unless ok f = if ok then None else Some f

-- the first fault of some
abbrev pub first : List (Option SetFault) → Option SetFault
first [] = None
first (f ∷ fs) = option_or f (first fs)

-- a key that is not known, and then the first that is missing
abbrev pub keys_fault : (task section : ℕ) (known needed : List Key) → Members → Option SetFault
keys_fault task section known needed ms =
    option_or (unless (only_keys known ms) (fault.UnknownKey task section))
    (option_map (fault.MissingKey task section) (first_missing needed ms))

-- a section's keys, and then the kinds of their values
abbrev pub section_table_fault : (task section : ℕ) → Members → Option SetFault
section_table_fault task section ms = first (
    keys_fault task section section_keys needed_section_keys ms
    ∷ unless (is_some (strings_at key.Locks ms)) (fault.WrongKind task section key.Locks)
    ∷ unless (is_some (number_or_zero (value_at key.At ms))) (fault.WrongKind task section key.At)
    ∷ unless (is_some (number_at key.Len ms)) (fault.WrongKind task section key.Len)
    ∷ [])

-- the first fault of a task's sections, of which the first stands at a place
abbrev pub section_tables_fault : (task place : ℕ) → List Members → Option SetFault
section_tables_fault task place [] = None
section_tables_fault task place (ms ∷ more) =
    option_or (section_table_fault task place ms) (section_tables_fault task (place + 1) more)

-- the place of the first section with a lock whose name is no name, where the first stands at a place
abbrev pub bad_section : ℕ → List CriticalSection → Option ℕ
bad_section place [] = None
bad_section place (x ∷ xs) =
    if list_all is_name x.locks then bad_section (place + 1) xs else Some place

-- where the first name is no name: 0 for the task's own, the section's place for a lock's, and 0 for that of a task
-- that it must outrank
abbrev pub bad_name : Task → Option ℕ
bad_name s =
    if is_name s.name then option_or (bad_section 1 s.sections)
    (if list_all is_name (names_said s.outranks) then None else Some 0)
    else Some 0

-- the kinds of a task's own values
abbrev pub kinds_fault : ℕ → Members → Option SetFault
kinds_fault task ms = first (
    unless (is_some (text_at key.Name ms)) (fault.WrongKind task 0 key.Name)
    ∷ unless (is_some (number_or_zero (value_at key.Weight ms))) (fault.WrongKind task 0 key.Weight)
    ∷ unless (is_some (number_at key.Period ms)) (fault.WrongKind task 0 key.Period)
    ∷ unless (is_some (number_at key.Deadline ms)) (fault.WrongKind task 0 key.Deadline)
    ∷ unless (is_some (number_at key.Cost ms)) (fault.WrongKind task 0 key.Cost)
    ∷ unless (is_some (tables_at key.Section ms)) (fault.WrongKind task 0 key.Section)
    ∷ unless (is_some (number_or_zero (value_at key.Jitter ms))) (fault.WrongKind task 0 key.Jitter)
    ∷ unless (is_some (outranks_or_none (value_at key.Outranks ms)))
    (fault.WrongKind task 0 key.Outranks)
    ∷ [])

-- what `Sheet::new`, `Sheet::jittered` and `Sheet::outranking` refuse of a task's values
abbrev pub values_fault : ℕ → Task → Option SetFault
values_fault task s = first (
    option_map (fault.Sheet task) (sheet_fault s)
    ∷ unless (nat_lt s.jitter s.deadline) (fault.BadJitter task)
    ∷ option_map (fault.Outranks task) (outranks_fault s.name s.outranks)
    ∷ [])

-- a task's keys, the kinds of its values, its sections, its names, and then the values
abbrev pub task_fault : ℕ → Members → Option SetFault
task_fault task ms = first (
    keys_fault task 0 task_keys needed_keys ms
    ∷ kinds_fault task ms
    ∷ section_tables_fault task 1 (unwrap_or (tables_at key.Section ms) [])
    ∷ option_map (fault.BadName task) (bad_name (sheet_at ms))
    ∷ values_fault task (sheet_at ms)
    ∷ [])

-- the first fault of tasks, of which the first stands at a place
abbrev pub tasks_fault : ℕ → List Members → Option SetFault
tasks_fault place [] = None
tasks_fault place (ms ∷ more) = option_or (task_fault place ms) (tasks_fault (place + 1) more)

-- what `TaskSet::new` refuses, as a fault of a document
abbrev pub of_set : SetCause → SetFault
of_set (cause.SameName task) = fault.SameName task
of_set cause.TooManyTasks = fault.TooManyTasks
of_set cause.OutOfMemory = fault.OutOfMemory

-- the fault of a document's preference: a value of another kind, or a word that says none
abbrev pub word_fault : Option (List ℕ) → Option SetFault
word_fault None = Some (fault.WrongKind 0 0 key.Prefer)
word_fault (Some word) = unless (is_some (preference_of word)) fault.BadPreference

-- the fault of the value at `prefer`, which may be absent
abbrev pub prefer_fault : Option Data → Option SetFault
prefer_fault None = None
prefer_fault (Some d) = word_fault (as_str d)

-- the node's keys, and then the kinds of its numbers
abbrev pub node_kinds_fault : Members → Option SetFault
node_kinds_fault ms = first (
    unless (only_keys node_keys ms) fault.UnknownOverhead
    ∷ unless (is_some (number_or_zero (value_at key.Job ms))) (fault.WrongKind 0 0 key.Job)
    ∷ unless (is_some (number_or_zero (value_at key.Lock ms))) (fault.WrongKind 0 0 key.Lock)
    ∷ unless (is_some (number_or_zero (value_at key.Release ms))) (fault.WrongKind 0 0 key.Release)
    ∷ unless (is_some (number_or_zero (value_at key.Late ms))) (fault.WrongKind 0 0 key.Late)
    ∷ [])

-- the first of the node's numbers that is past its limit; what a timer takes of whoever executes is a part of `job`
abbrev pub numbers_fault : Node → Option SetFault
numbers_fault node = first (
    unless (nat_le node.job PERIOD_TO) (fault.BadOverhead key.Job)
    ∷ unless (nat_le node.lock PERIOD_TO) (fault.BadOverhead key.Lock)
    ∷ unless (nat_le node.release (min PERIOD_FROM node.job)) (fault.BadOverhead key.Release)
    ∷ unless (nat_le node.late PERIOD_TO) (fault.BadOverhead key.Late)
    ∷ [])

-- the node's keys, the kinds of its numbers, and then their limits
abbrev pub node_fault : Members → Option SetFault
node_fault ms = option_or (node_kinds_fault ms) (numbers_fault (node_at ms))

-- the fault of the value at `node`, which may be absent
abbrev pub table_fault : Option Members → Option SetFault
table_fault None = Some (fault.WrongKind 0 0 key.Node)
table_fault (Some ms) = node_fault ms

abbrev pub overheads_fault : Option Data → Option SetFault
overheads_fault None = None
overheads_fault (Some d) = table_fault (as_table d)

-- an interrupt is within the limits, as a test
abbrev pub is_interrupt : Interrupt → Bool
is_interrupt x =
    nat_le INTERRUPT_FROM x.period && (nat_le x.period PERIOD_TO && nat_le x.cost x.period)

-- a table has the keys of an interrupt alone, both with numbers, and they are within the limits
abbrev pub says_interrupt : Members → Bool
says_interrupt ms =
    only_keys interrupt_keys ms
    && (is_some (number_at key.Period ms)
    && (is_some (number_at key.Cost ms) && is_interrupt (interrupt_at ms)))

-- the place of the first table that says no interrupt, where the first stands at a place
abbrev pub bad_interrupt : ℕ → List Members → Option ℕ
bad_interrupt place [] = None
bad_interrupt place (ms ∷ more) =
    if says_interrupt ms then bad_interrupt (place + 1) more else Some place

-- the fault of the interrupts' tables: a value of another kind, the first table that says none, and then that there are
-- too many
abbrev pub interrupts_fault : Option (List Members) → Option SetFault
interrupts_fault None = Some (fault.WrongKind 0 0 key.Interrupt)
interrupts_fault (Some mss) =
    option_or (option_map fault.BadInterrupt (bad_interrupt 1 mss))
    (unless (nat_le (length mss) INTERRUPT_LIMIT) fault.TooManyInterrupts)

-- the fault of the chains' tables: a value of another kind
abbrev pub chains_fault : Option (List Members) → Option SetFault
chains_fault mss = unless (is_some mss) (fault.WrongKind 0 0 key.Chain)

-- the root's keys and the kind of `task`, its preference, the node, the interrupts, the kind of `chain`, each task, and
-- then what `TaskSet::new` refuses
abbrev pub tree_fault : Members → Option SetFault
tree_fault ms = first (
    unless (only_keys root_keys ms) (fault.UnknownKey 0 0)
    ∷ unless (is_some (tables_at key.Task ms)) (fault.WrongKind 0 0 key.Task)
    ∷ prefer_fault (value_at key.Prefer ms)
    ∷ overheads_fault (value_at key.Node ms)
    ∷ interrupts_fault (tables_at key.Interrupt ms)
    ∷ chains_fault (tables_at key.Chain ms)
    ∷ tasks_fault 1 (unwrap_or (tables_at key.Task ms) [])
    ∷ option_map of_set (sheets_fault (tree_sheets ms))
    ∷ [])
