-- What the node's document says: for all teams, and what each of them may take and say.
use Rattle.std.specs.Prelude.{◌≡◌, ℕ, nat_le, length, List, [], ◌∷◌, Bool, true, false, ◌&&◌, Option, Some, None, option_map, unwrap_or, is_some, Result, Ok, Err, codes, if◌then◌else◌}
use Rattle.std.specs.Option.{option_or}
use Rattle.std.specs.List.{list_any}
use Rattle.toml.specs.Data.{Data, Members, no_members, member, get_member, as_bool, as_str, as_table}
use Rattle.task_sheet.specs.Name.{is_name}
use Rattle.task_sheet.specs.Sheet.{same_bytes}
use Rattle.task_sheet.specs.Tree.{number_of, tables_at, tree_interrupts, tree_node, tree_prefers, value_at, word_of}
use Rattle.task_sheet.specs.TreeFault.{chains_fault, interrupts_fault, overheads_fault, prefer_fault}
use Rattle.task_sheet.specs.declared.keys.Key.TheVariants as key
use Rattle.task_sheet.specs.declared.read.SetFault.{SetFault}
use Rattle.task_sheet.specs.ReadsSet.{IsDocument}
use Rattle.teams.specs.Owned.{TeamSetData}
use Rattle.teams.specs.declared.naming.Lock.{Lock}
use Rattle.teams.specs.declared.node.TheConstants.{LOCKS_LIMIT}
use Rattle.teams.specs.declared.node.Budget.{Budget}
use Rattle.teams.specs.declared.node.Quantity.{Quantity}
use Rattle.teams.specs.declared.node.Quantity.TheVariants.{Load, Section}
use Rattle.teams.specs.declared.node.NodeKey.{NodeKey}
use Rattle.teams.specs.declared.node.NodeKey.TheVariants.{Team, Strict, Locks, Limit, Said}
use Rattle.teams.specs.declared.node.NodeFault.{NodeFault}
use Rattle.teams.specs.declared.node.NodeFault.TheVariants as fault

-- how a quantity is written
abbrev pub quantity_word : Quantity → List ℕ
quantity_word Load = codes "load"
quantity_word Section = codes "section"

-- how a key of a node's document is written
abbrev pub key_word : NodeKey → List ℕ
key_word Team = codes "team"
key_word Strict = codes "strict"
key_word Locks = codes "locks"
key_word (Limit quantity) = quantity_word quantity
key_word (Said key) = word_of key

-- the text is the word of one of these keys
abbrev pub is_word_of : List NodeKey → List ℕ → Bool
is_word_of keys text = list_any (λ k. same_bytes (key_word k) text) keys

-- a table has these keys alone
abbrev pub only_keys : List NodeKey → Members → Bool
only_keys keys no_members = true
only_keys keys (member k d ms) = is_word_of keys k && only_keys keys ms

-- the limit that a value is, where one is there; none where it is no number
abbrev pub limit_of : Option Data → Option (Option ℕ)
limit_of None = Some None
limit_of (Some d) = option_map Some (number_of d)

-- the value at a key is no number
abbrev pub limit_fault : List ℕ → Quantity → Members → Option NodeFault
limit_fault team quantity ms =
    if is_some (limit_of (get_member (quantity_word quantity) ms)) then None
    else Some (fault.NoNumber team quantity)

-- what a value says that may be absent, and says false then; none where it is neither true nor false
abbrev pub flag_of : Option Data → Option Bool
flag_of None = Some false
flag_of (Some d) = as_bool d

-- the value at the key of the right to say what is the node's is neither
abbrev pub right_fault : List ℕ → Members → Option NodeFault
right_fault team ms =
    if is_some (flag_of (get_member (key_word (Said key.Node)) ms)) then None
    else Some (fault.NoRight team)

-- why a team's table says no budget: its keys, its numbers, and then its right
abbrev pub table_fault : List ℕ → Members → Option NodeFault
table_fault team ms =
    if only_keys (Limit Load ∷ Limit Section ∷ Said key.Node ∷ []) ms
    then option_or (limit_fault team Load ms)
    (option_or (limit_fault team Section ms) (right_fault team ms))
    else Some (fault.UnknownKey team)

-- the budget that it says
abbrev pub budget_of : List ℕ → Members → Budget
budget_of team ms = record {
  team = team;
  load = unwrap_or (limit_of (get_member (quantity_word Load) ms)) None;
  section = unwrap_or (limit_of (get_member (quantity_word Section) ms)) None;
  right = unwrap_or (flag_of (get_member (key_word (Said key.Node)) ms)) false;
}

-- why what stands at a name says no budget
abbrev pub value_fault : List ℕ → Option Members → Option NodeFault
value_fault team None = Some (fault.NoBudget team)
value_fault team (Some ms) = table_fault team ms

abbrev pub entry_fault : List ℕ → Data → Option NodeFault
entry_fault name d = if is_name name then value_fault name (as_table d) else Some fault.BadName

-- the budget that it says
abbrev pub entry_budget : List ℕ → Data → Budget
entry_budget name d = budget_of name (unwrap_or (as_table d) no_members)

-- the first fault of a table of budgets, by the names of the teams
abbrev pub entries_fault : Members → Option NodeFault
entries_fault no_members = None
entries_fault (member k d ms) = option_or (entry_fault k d) (entries_fault ms)

-- its budgets
abbrev pub budgets_of : Members → List Budget
budgets_of no_members = []
budgets_of (member k d ms) = entry_budget k d ∷ budgets_of ms

-- the fault of the value at `team`, which may be absent
abbrev pub teams_fault : Option Data → Option NodeFault
teams_fault None = None
teams_fault (Some d) = tables_fault (as_table d)
  where
    tables_fault : Option Members → Option NodeFault
    tables_fault None = Some fault.NoTeams
    tables_fault (Some ms) = entries_fault ms

-- its budgets
abbrev pub budgets_at : Option Data → List Budget
budgets_at None = []
budgets_at (Some d) = budgets_of (unwrap_or (as_table d) no_members)

abbrev pub budgets_in : Members → List Budget
budgets_in root = budgets_at (get_member (key_word Team) root)

-- ---- locks
-- a value is true
abbrev pub is_true : Data → Bool
is_true d = unwrap_or (as_bool d) false

abbrev pub is_said_true : Option Data → Bool
is_said_true None = false
is_said_true (Some d) = is_true d

-- the lock that a string names, which stands in the table as one
abbrev pub lock_named : Members → Option (List ℕ) → Option (List ℕ)
lock_named ms None = None
lock_named ms (Some text) =
    if is_said_true (get_member text ms) && is_name text then Some text else None

-- the lock of which a name is, by what the table says at it: its own, or another one of the table
abbrev pub lock_said : Members → List ℕ → Data → Option (List ℕ)
lock_said ms name d = if is_true d then Some name else lock_named ms (as_str d)

-- why what a table says at a key is no lock
abbrev pub lock_fault : Members → List ℕ → Data → Option NodeFault
lock_fault ms name d =
    if is_name name then (if is_some (lock_said ms name d) then None else Some (fault.BadLock name))
    else Some fault.BadLockName

-- the name, and the lock that it is of
abbrev pub lock_at : Members → List ℕ → Data → Lock
lock_at ms name d = record { name = name; lock = unwrap_or (lock_said ms name d) [] }

-- the first fault of some keys of a table
abbrev pub names_fault : Members → Members → Option NodeFault
names_fault ms no_members = None
names_fault ms (member k d more) = option_or (lock_fault ms k d) (names_fault ms more)

-- their locks
abbrev pub names_of : Members → Members → List Lock
names_of ms no_members = []
names_of ms (member k d more) = lock_at ms k d ∷ names_of ms more

-- the fault of the value at `locks`, which may be absent
abbrev pub listed_fault : Option Members → Option NodeFault
listed_fault None = Some fault.NoLocks
listed_fault (Some ms) =
    option_or (names_fault ms ms)
    (if nat_le (length (names_of ms ms)) LOCKS_LIMIT then None else Some fault.TooManyLocks)

abbrev pub locks_fault : Option Data → Option NodeFault
locks_fault None = None
locks_fault (Some d) = listed_fault (as_table d)

-- the locks that are listed there
abbrev pub listed : Data → List Lock
listed d = names_of (unwrap_or (as_table d) no_members) (unwrap_or (as_table d) no_members)

abbrev pub locks_in : Members → Option (List Lock)
locks_in root = option_map listed (get_member (key_word Locks) root)

-- ---- what is said for all teams
-- how the node's document is called among those of teams
abbrev pub node_word : List ℕ
node_word = codes "node"

-- a document without tasks that says it
abbrev pub own_of : Members → TeamSetData
own_of root = record {
  team = node_word;
  set = [];
  prefers = tree_prefers root;
  node = tree_node root;
  interrupts = tree_interrupts root;
}

-- its first fault: that of the preference, the node, the interrupts, and then the kind of `chain`, each as a set's document
-- has it
abbrev pub own_fault : Members → Option SetFault
own_fault root =
    option_or (prefer_fault (value_at key.Prefer root))
    (option_or (overheads_fault (value_at key.Node root))
    (option_or (interrupts_fault (tables_at key.Interrupt root))
    (chains_fault (tables_at key.Chain root))))

-- ---- doubts
-- the value at `strict` is neither true nor false
abbrev pub strict_fault : Members → Option NodeFault
strict_fault root =
    if is_some (flag_of (get_member (key_word Strict) root)) then None else Some fault.BadStrict

-- the set is refused for its first doubt
abbrev pub strict_in : Members → Bool
strict_in root = unwrap_or (flag_of (get_member (key_word Strict) root)) false

-- ---- the document
-- what it says
pub record NodeData : Type 0 where
  pub own : TeamSetData
  pub is_strict : Bool
  pub locks : Option (List Lock)
  pub budgets : List Budget

abbrev pub node_of : Members → NodeData
node_of root = record {
  own = own_of root;
  is_strict = strict_in root;
  locks = locks_in root;
  budgets = budgets_in root;
}

-- the first fault of a node's document: its keys, what is said for all teams, `strict`, its locks, and then the teams
abbrev pub node_fault : Members → Option NodeFault
node_fault root =
    if only_keys (Said key.Prefer ∷ Said key.Node ∷ Said key.Interrupt ∷ Said key.Chain ∷ Strict ∷ Locks ∷ Team ∷ []) root
    then option_or (option_map fault.Says (own_fault root))
    (option_or (strict_fault root)
    (option_or (locks_fault (get_member (key_word Locks) root))
    (teams_fault (get_member (key_word Team) root))))
    else Some fault.UnknownRoot

-- what the tree says, where it has no fault; Syntax: there is no tree; any other fault but out of memory: the tree's first
abbrev pub ReadsNodeDocument : List ℕ → Result NodeData NodeFault → Type 0
ReadsNodeDocument text (Ok n) =
    (tree : Members) × IsDocument text tree × (node_fault tree ≡ None) × (n ≡ node_of tree)
ReadsNodeDocument text (Err fault.OutOfMemory) = Unit {0}
ReadsNodeDocument text (Err fault.Syntax) = (tree : Members) → IsDocument text tree → ⊥
ReadsNodeDocument text (Err e) = (tree : Members) × IsDocument text tree × (node_fault tree ≡ Some e)
