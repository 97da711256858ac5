-- What a document's tree says of tasks.
use Rattle.std.specs.Prelude.{◌≡◌, ℕ, ◌+◌, ◌-◌, ◌^◌, min, Bool, true, false, ◌&&◌, List, [], ◌∷◌, map, Option, Some, None, option_map, option_and_then, unwrap_or, is_some, codes, pos, if◌then◌else◌}
use Rattle.std.specs.List.{list_any}
use Rattle.toml.specs.Data.{Data, string, integer, array, table, Items, no_items, item, Members, no_members, member, get_member, as_str, as_table}
use Rattle.toml.specs.View.{items_view}
use Rattle.task_sheet.specs.Sheet.{CriticalSection, OutranksData, Named, AllOthers, Task, no_overhead, same_bytes}
use Rattle.task_sheet.specs.Prefer.{preference_of}
use Rattle.task_sheet.specs.declared.prefer.Preference.{Preference}
use Rattle.task_sheet.specs.declared.node.Node.{Node}
use Rattle.task_sheet.specs.declared.node.Interrupt.{Interrupt}
use Rattle.task_sheet.specs.declared.keys.Key.{Key}
use Rattle.task_sheet.specs.declared.keys.Key.TheVariants as key
use Rattle.task_sheet.specs.declared.values.Said.{Said}
use Rattle.task_sheet.specs.declared.values.Said.TheVariants.{Strings, All}

-- ---- keys

-- how a key is written
abbrev pub word_of : Key → List ℕ
word_of key.Task = codes "task"
word_of key.Prefer = codes "prefer"
word_of key.Node = codes "node"
word_of key.Job = codes "job"
word_of key.Lock = codes "lock"
word_of key.Release = codes "release"
word_of key.Late = codes "late"
word_of key.Interrupt = codes "interrupt"
word_of key.Chain = codes "chain"
word_of key.Name = codes "name"
word_of key.Weight = codes "weight"
word_of key.Period = codes "period"
word_of key.Deadline = codes "deadline"
word_of key.Cost = codes "cost"
word_of key.Section = codes "section"
word_of key.Jitter = codes "jitter"
word_of key.Outranks = codes "outranks"
word_of key.Locks = codes "locks"
word_of key.At = codes "at"
word_of key.Len = codes "len"
word_of key.Tasks = codes "tasks"
word_of key.Age = codes "age"
word_of key.Reaction = codes "reaction"
word_of key.Offsets = codes "offsets"
word_of key.Writes = codes "writes"

-- the keys that may stand in the root
abbrev pub root_keys : List Key
root_keys = key.Task ∷ key.Prefer ∷ key.Node ∷ key.Interrupt ∷ key.Chain ∷ []

-- the keys of the node's table
abbrev pub node_keys : List Key
node_keys = key.Job ∷ key.Lock ∷ key.Release ∷ key.Late ∷ []

-- the keys of an interrupt's table
abbrev pub interrupt_keys : List Key
interrupt_keys = key.Period ∷ key.Cost ∷ []

-- the keys of a chain's table
abbrev pub chain_keys : List Key
chain_keys =
    key.Name ∷ key.Tasks ∷ key.Age ∷ key.Reaction ∷ key.Offsets ∷ key.Writes ∷ []

-- those that it needs
abbrev pub needed_chain_keys : List Key
needed_chain_keys = key.Name ∷ key.Tasks ∷ []

-- the keys of a task's table
abbrev pub task_keys : List Key
task_keys =
    key.Name ∷ key.Weight ∷ key.Period ∷ key.Deadline ∷ key.Cost ∷ key.Section ∷ key.Jitter
    ∷ key.Outranks ∷ []

-- those that it needs
abbrev pub needed_keys : List Key
needed_keys = key.Name ∷ key.Period ∷ key.Deadline ∷ key.Cost ∷ []

-- the keys of a section's table
abbrev pub section_keys : List Key
section_keys = key.Locks ∷ key.At ∷ key.Len ∷ []

-- those that it needs
abbrev pub needed_section_keys : List Key
needed_section_keys = key.Locks ∷ key.Len ∷ []

-- the text is the word of one of these keys
abbrev pub is_word_of : List Key → List ℕ → Bool
is_word_of keys text = list_any (λ k. same_bytes (word_of k) text) keys

-- a table has these keys alone
abbrev pub only_keys : List Key → Members → Bool
only_keys keys no_members = true
only_keys keys (member k d ms) = is_word_of keys k && only_keys keys ms

-- the value at a key
abbrev pub value_at : Key → Members → Option Data
value_at k ms = get_member (word_of k) ms

-- the first of these keys that a table lacks
abbrev pub first_missing : List Key → Members → Option Key
first_missing [] ms = None
first_missing (k ∷ ks) ms = if is_some (value_at k ms) then first_missing ks ms else Some k

-- ---- values of the right kind

-- a number: an integer that is not negative
abbrev pub number_of : Data → Option ℕ
number_of (integer (pos n)) = Some n
number_of _ = None

-- the number at a key
abbrev pub number_at : Key → Members → Option ℕ
number_at k ms = option_and_then number_of (value_at k ms)

-- the number of a key that may be absent, and is this number then
abbrev pub number_or : ℕ → Option Data → Option ℕ
number_or n None = Some n
number_or n (Some d) = number_of d

-- the same, which is 0 where the key is absent
abbrev pub number_or_zero : Option Data → Option ℕ
number_or_zero = number_or 0

-- the string at a key
abbrev pub text_at : Key → Members → Option (List ℕ)
text_at k ms = option_and_then as_str (value_at k ms)

-- all of the items are strings
abbrev pub all_strings : Items → Bool
all_strings no_items = true
all_strings (item (string s) ds) = all_strings ds
all_strings (item _ ds) = false

-- the strings among some items
abbrev pub strings_in : Items → List (List ℕ)
strings_in no_items = []
strings_in (item (string s) ds) = s ∷ strings_in ds
strings_in (item _ ds) = strings_in ds

-- an array of strings
abbrev pub strings_of : Data → Option (List (List ℕ))
strings_of (array ds) = if all_strings ds then Some (strings_in ds) else None
strings_of _ = None

-- the array of strings at a key
abbrev pub strings_at : Key → Members → Option (List (List ℕ))
strings_at k ms = option_and_then strings_of (value_at k ms)

-- how all others are written
abbrev pub all_word : List ℕ
all_word = codes "all"

-- above which tasks one must stand, by a string, else by an array of strings
abbrev pub said_by : Option (List ℕ) → Option (List (List ℕ)) → Option OutranksData
said_by (Some word) strings = if same_bytes all_word word then Some AllOthers else None
said_by None strings = option_map Named strings

-- the same of a value
abbrev pub outranks_in : Data → Option OutranksData
outranks_in d = said_by (as_str d) (strings_of d)

-- the same where it may be absent, and is no name then
abbrev pub outranks_or_none : Option Data → Option OutranksData
outranks_or_none None = Some (Named [])
outranks_or_none (Some d) = outranks_in d

-- what is told of it
abbrev pub said_of : Said → OutranksData
said_of (Strings items) = Named (strings_in (items_view items.now))
said_of All = AllOthers

-- all of the items are tables
abbrev pub all_tables : Items → Bool
all_tables no_items = true
all_tables (item (table ms) ds) = all_tables ds
all_tables (item _ ds) = false

-- the tables among some items
abbrev pub tables_in : Items → List Members
tables_in no_items = []
tables_in (item (table ms) ds) = ms ∷ tables_in ds
tables_in (item _ ds) = tables_in ds

-- an array of tables, which may be absent, and is empty then
abbrev pub tables_of : Option Data → Option (List Members)
tables_of None = Some []
tables_of (Some (array ds)) = if all_tables ds then Some (tables_in ds) else None
tables_of (Some _) = None

-- the array of tables at a key, which may be absent
abbrev pub tables_at : Key → Members → Option (List Members)
tables_at k ms = tables_of (value_at k ms)

-- ---- what tables of the right kinds say

-- the section of a table, which begins at `from` where it doesn't say where
abbrev pub section_at : (from : ℕ) → Members → CriticalSection
section_at from ms = record {
  locks = unwrap_or (strings_at key.Locks ms) [];
  at = unwrap_or (number_or from (value_at key.At ms)) 0;
  len = unwrap_or (number_at key.Len ms) 0;
}

-- where a section ends, or the greatest number of 64 bits where it ends past that, as in no sheet
abbrev pub capped_end : CriticalSection → ℕ
capped_end x = min (x.at + x.len) (2 ^ 64 - 1)

-- the sections of tables: one that doesn't say where it begins begins where the one before it ends, the first at `from`
abbrev pub sections_from : (from : ℕ) → List Members → List CriticalSection
sections_from from [] = []
sections_from from (ms ∷ more) =
    section_at from ms ∷ sections_from (capped_end (section_at from ms)) more

-- the sheet of a task's table
abbrev pub sheet_at : Members → Task
sheet_at ms = record {
  name = unwrap_or (text_at key.Name ms) [];
  weight = unwrap_or (number_or_zero (value_at key.Weight ms)) 0;
  period = unwrap_or (number_at key.Period ms) 0;
  deadline = unwrap_or (number_at key.Deadline ms) 0;
  cost = unwrap_or (number_at key.Cost ms) 0;
  sections = sections_from 0 (unwrap_or (tables_at key.Section ms) []);
  jitter = unwrap_or (number_or_zero (value_at key.Jitter ms)) 0;
  outranks = unwrap_or (outranks_or_none (value_at key.Outranks ms)) (Named []);
  node = no_overhead;
  interrupts = [];
}

-- the sheets of a document, in its order
abbrev pub tree_sheets : Members → List Task
tree_sheets ms = map sheet_at (unwrap_or (tables_at key.Task ms) [])

-- what a document prefers, where it says so
abbrev pub tree_prefers : Members → Option Preference
tree_prefers ms = option_and_then preference_of (text_at key.Prefer ms)

-- a number of the node's table, in which it may be absent
abbrev pub overhead_at : Key → Members → ℕ
overhead_at k ms = unwrap_or (number_or_zero (value_at k ms)) 0

-- what the node's table says
abbrev pub node_at : Members → Node
node_at ms = record {
  job = overhead_at key.Job ms;
  lock = overhead_at key.Lock ms;
  late = overhead_at key.Late ms;
  release = overhead_at key.Release ms;
}

-- the node of a document, where it has one
abbrev pub tree_node : Members → Option Node
tree_node ms = option_map node_at (option_and_then as_table (value_at key.Node ms))

-- what an interrupt's table says
abbrev pub interrupt_at : Members → Interrupt
interrupt_at ms = record {
  period = unwrap_or (number_at key.Period ms) 0;
  cost = unwrap_or (number_at key.Cost ms) 0;
}

-- the interrupts of a document, in its order
abbrev pub tree_interrupts : Members → List Interrupt
tree_interrupts ms = map interrupt_at (unwrap_or (tables_at key.Interrupt ms) [])

-- a task's own values, each of the right kind
pub record AreFields (ms : Members) (text : List ℕ) (w p d c : ℕ) (tables : List Members) (j : ℕ) (said : OutranksData) : Type 0 where
  pub name : text_at key.Name ms ≡ Some text
  pub weight : number_or_zero (value_at key.Weight ms) ≡ Some w
  pub period : number_at key.Period ms ≡ Some p
  pub deadline : number_at key.Deadline ms ≡ Some d
  pub cost : number_at key.Cost ms ≡ Some c
  pub sections : tables_at key.Section ms ≡ Some tables
  pub jitter : number_or_zero (value_at key.Jitter ms) ≡ Some j
  pub outranks : outranks_or_none (value_at key.Outranks ms) ≡ Some said
