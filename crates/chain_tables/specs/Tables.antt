-- What the tables of chains in a document's tree say, and the first reason for which they say none.
use Rattle.std.specs.Prelude.{ℕ, ◌+◌, ◌==◌, min, nat_le, ◌&&◌, ◌||◌, Bool, true, List, [], ◌∷◌, ◌++◌, codes, map, length, find, Option, Some, None, is_some, unwrap_or, option_map, if◌then◌else◌, not}
use Rattle.std.specs.Option.{option_and_then, option_or, option_to_list}
use Rattle.std.specs.List.{list_all}
use Rattle.toml.specs.Data.{Data, array, Items, no_items, item, Members}
use Rattle.task_sheet.specs.Name.{is_name}
use Rattle.task_sheet.specs.Sheet.{repeats, same_bytes}
use Rattle.task_sheet.specs.Tree.{chain_keys, first_missing, needed_chain_keys, number_at, number_of, number_or_zero, only_keys, strings_at, tables_at, text_at, value_at}
use Rattle.task_sheet.specs.declared.keys.Key.{Key}
use Rattle.task_sheet.specs.declared.keys.Key.TheVariants as key
use Rattle.chains.specs.declared.bounds.Writes.{Writes}
use Rattle.chains.specs.declared.bounds.Writes.TheVariants.{AtFinish, AtDeadline}
use Rattle.chain_tables.specs.declared.judging.TheConstants.{CHAIN_LIMIT}
use Rattle.chain_tables.specs.declared.table.TheConstants.{CHAIN_TASKS, LONGEST_LIMIT}
use Rattle.chain_tables.specs.declared.fault.ChainCause.{ChainCause}
use Rattle.chain_tables.specs.declared.fault.ChainCause.TheVariants as cause
use Rattle.chain_tables.specs.declared.fault.Whose.{Whose}
use Rattle.chain_tables.specs.declared.documents.Repeat.{Repeat}

-- ---- arrays of numbers
-- all of the items are numbers
abbrev pub all_numbers : Items → Bool
all_numbers no_items = true
all_numbers (item d ds) = is_some (number_of d) && all_numbers ds

-- the numbers among some items
abbrev pub numbers_in : Items → List ℕ
numbers_in no_items = []
numbers_in (item d ds) = option_to_list (number_of d) ++ numbers_in ds

-- an array of numbers
abbrev pub numbers_of : Data → Option (List ℕ)
numbers_of (array ds) = if all_numbers ds then Some (numbers_in ds) else None
numbers_of _ = None

-- the array of numbers at a key
abbrev pub numbers_at : Key → Members → Option (List ℕ)
numbers_at k ms = option_and_then numbers_of (value_at k ms)

-- ---- what a table says
-- a chain as a document says it: its tasks by their names, the first one first, their offsets, [] where they aren't known, and
-- when they write
pub record WrittenData : Type 0 where
  pub whose : Whose
  pub name : List ℕ
  pub tasks : List (List ℕ)
  pub limit : Option ℕ
  pub offsets : List ℕ
  pub writes : Writes

-- the lesser of two limits, of which either may be absent
abbrev pub lesser : Option ℕ → Option ℕ → Option ℕ
lesser (Some a) (Some b) = Some (min a b)
lesser (Some a) None = Some a
lesser None b = b

abbrev pub name_said : Members → List ℕ
name_said ms = unwrap_or (text_at key.Name ms) []

abbrev pub tasks_said : Members → List (List ℕ)
tasks_said ms = unwrap_or (strings_at key.Tasks ms) []

abbrev pub offsets_said : Members → List ℕ
offsets_said ms = unwrap_or (numbers_at key.Offsets ms) []

-- when tasks write that a word says; none where it is no such word
abbrev pub writes_of : List ℕ → Option Writes
writes_of word =
    if same_bytes (codes "finish") word then Some AtFinish
    else (if same_bytes (codes "deadline") word then Some AtDeadline else None)

abbrev pub writes_by : Option (List ℕ) → Option Writes
writes_by None = Some AtFinish
writes_by (Some word) = writes_of word

-- when those of a chain do: as they finish, where its table says nothing
abbrev pub writes_said : Members → Option Writes
writes_said ms = writes_by (text_at key.Writes ms)

-- the chain that a table says; its limit is the lesser of those of its age and its reaction
abbrev pub chain_at : Whose → Members → WrittenData
chain_at whose ms = record {
  whose = whose;
  name = name_said ms;
  tasks = tasks_said ms;
  limit = lesser (number_at key.Age ms) (number_at key.Reaction ms);
  offsets = offsets_said ms;
  writes = unwrap_or (writes_said ms) AtFinish;
}

-- ---- why a table says none
-- the fault, where the test fails
abbrev pub unless : Bool → ChainCause → Option ChainCause
unless ok f = if ok then None else Some f

-- a key that is not known, and then the first that is missing
abbrev pub keys_fault : ℕ → Members → Option ChainCause
keys_fault chain ms =
    option_or (unless (only_keys chain_keys ms) (cause.UnknownKey chain))
    (option_map (cause.MissingKey chain) (first_missing needed_chain_keys ms))

-- a string stands at a key, or nothing
abbrev pub is_text_or_none : Key → Members → Bool
is_text_or_none k ms = is_some (text_at k ms) || not (is_some (value_at k ms))

-- an array of numbers, or nothing
abbrev pub are_numbers_or_none : Key → Members → Bool
are_numbers_or_none k ms = is_some (numbers_at k ms) || not (is_some (value_at k ms))

-- the kinds of the values
abbrev pub kinds_fault : ℕ → Members → Option ChainCause
kinds_fault chain ms =
    option_or (unless (is_some (text_at key.Name ms)) (cause.WrongKind chain key.Name))
    (option_or (unless (is_some (strings_at key.Tasks ms)) (cause.WrongKind chain key.Tasks))
    (option_or (unless (is_some (number_or_zero (value_at key.Age ms))) (cause.WrongKind chain key.Age))
    (option_or (unless (is_some (number_or_zero (value_at key.Reaction ms))) (cause.WrongKind chain key.Reaction))
    (option_or (unless (are_numbers_or_none key.Offsets ms) (cause.WrongKind chain key.Offsets))
    (unless (is_text_or_none key.Writes ms) (cause.WrongKind chain key.Writes))))))

-- a limit, where one is there, is from 1 to the longest
abbrev pub is_within : Option ℕ → Bool
is_within None = true
is_within (Some limit) = nat_le 1 limit && nat_le limit LONGEST_LIMIT

-- offsets, where they are there, are one for each of so many tasks
abbrev pub are_each : (count : ℕ) → Option (List ℕ) → Bool
are_each count None = true
are_each count (Some offsets) = length offsets == count

-- how many tasks there are, that none stands twice, the limits, how many offsets, and when the tasks write
abbrev pub values_fault : ℕ → List (List ℕ) → Members → Option ChainCause
values_fault chain tasks ms =
    option_or (unless (nat_le 1 (length tasks) && nat_le (length tasks) CHAIN_TASKS) (cause.Length chain))
    (option_or (unless (not (repeats tasks)) (cause.TaskTwice chain))
    (option_or (unless (is_within (number_at key.Age ms)) (cause.BadLimit chain key.Age))
    (option_or (unless (is_within (number_at key.Reaction ms)) (cause.BadLimit chain key.Reaction))
    (option_or (unless (are_each (length tasks) (numbers_at key.Offsets ms)) (cause.BadOffsets chain))
    (unless (is_some (writes_said ms)) (cause.BadWrites chain))))))

-- a table's keys, the kinds of its values, its names, and then the values
abbrev pub table_fault : ℕ → Members → Option ChainCause
table_fault chain ms =
    option_or (keys_fault chain ms)
    (option_or (kinds_fault chain ms)
    (option_or (unless (is_name (name_said ms) && list_all is_name (tasks_said ms)) (cause.BadName chain))
    (values_fault chain (tasks_said ms) ms)))

-- the first fault of tables, of which the first stands at a place
abbrev pub tables_fault : ℕ → List Members → Option ChainCause
tables_fault place [] = None
tables_fault place (ms ∷ more) = option_or (table_fault place ms) (tables_fault (place + 1) more)

-- ---- names that stand twice
-- whose the first chain with a name is
abbrev pub holder_of : List WrittenData → List ℕ → Option Whose
holder_of ws name = option_map (λ w. w.whose) (find (λ w. same_bytes w.name name) ws)

-- the first such chain behind those that were seen, where it would stand at a place
abbrev pub first_repeat : List WrittenData → ℕ → List WrittenData → Option Repeat
first_repeat seen place [] = None
first_repeat seen place (w ∷ ws) =
    option_or (option_map (λ other. record { place = place; whose = w.whose; name = w.name; other = other })
    (holder_of seen w.name)) (first_repeat (seen ++ w ∷ []) (place + 1) ws)

-- ---- a document's tree
-- the tables of its chains; none where there is no array of tables
abbrev pub tables_of : Members → List Members
tables_of tree = unwrap_or (tables_at key.Chain tree) []

-- the chains that it says
abbrev pub chains_in : Whose → Members → List WrittenData
chains_in whose tree = map (chain_at whose) (tables_of tree)

-- why chains of a document are none by their number and their names
abbrev pub names_fault : List WrittenData → Option ChainCause
names_fault ws =
    option_or (unless (nat_le (length ws) CHAIN_LIMIT) cause.TooManyChains)
    (option_map (λ r. cause.SameName r.place) (first_repeat [] 1 ws))

-- each table, how many there are, and then their names
abbrev pub document_fault : Whose → Members → Option ChainCause
document_fault whose tree =
    option_or (tables_fault 1 (tables_of tree)) (names_fault (chains_in whose tree))
