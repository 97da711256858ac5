-- The chains of a set.
use Rattle.std.specs.Prelude.{◌≡◌, ◌⊎◌, ℕ, nat_le, nat_lt, ◌==◌, ◌&&◌, Bool, List, [], ◌∷◌, ◌++◌, map, length, Option, Some, None, is_some, unwrap_or, option_map, Ok, Err, if◌then◌else◌}
use Rattle.std.specs.Option.{option_or}
use Rattle.task_sheet.specs.Sheet.{Task, same_bytes, task_at}
use Rattle.teams.specs.NodeDocument.{node_word}
use Rattle.ceiling_kernel.specs.Releases.{task_named}
use Rattle.chains.specs.Gaps.{gap_of}
use Rattle.chains.specs.Walks.{starts_of, steps_with}
use Rattle.chains.specs.declared.bounds.Writes.{Writes}
use Rattle.chains.specs.declared.walks.Step.{Step}
use Rattle.chain_tables.specs.Tables.{WrittenData, first_repeat}
use Rattle.chain_tables.specs.Documents.{ReadsWritten}
use Rattle.chain_tables.specs.declared.judging.TheConstants.{CHAIN_LIMIT}
use Rattle.chain_tables.specs.declared.fault.Whose.{Whose}
use Rattle.chain_tables.specs.declared.documents.Repeat.{Repeat}
use Rattle.chain_tables.specs.declared.fault.Whose.TheVariants as whose
use Rattle.chain_tables.specs.declared.fault.ChainFault.{ChainFault}
use Rattle.chain_tables.specs.declared.fault.ChainFault.TheVariants as fault

-- a chain of a set: its tasks by index, the first one first, its limit, if it has one, its tasks' offsets, [] where they aren't
-- known, and when its tasks write
pub record ChainData : Type 0 where
  pub name : List ℕ
  pub tasks : List ℕ
  pub limit : Option ℕ
  pub offsets : List ℕ
  pub writes : Writes

-- the index of the task of a set that has a name; 0 where there is none
abbrev pub index_of : List Task → List ℕ → ℕ
index_of U name = unwrap_or (task_named U name) 0

-- a chain that a document says
abbrev pub chain_of : List Task → WrittenData → ChainData
chain_of U w = record {
  name = w.name;
  tasks = map (index_of U) w.tasks;
  limit = w.limit;
  offsets = w.offsets;
  writes = w.writes;
}

-- ---- why chains are none together
-- what stands for a document in place of a team
abbrev pub team_word : Whose → List ℕ
team_word whose.Alone = node_word
team_word whose.Node = node_word
team_word (whose.Team team) = team

-- the fault of a chain with the name of another document's
abbrev pub taken : Repeat → ChainFault
taken r = fault.Taken (team_word r.whose) r.name (team_word r.other)

-- the first of a chain's tasks that a set doesn't have
abbrev pub strange_in : List Task → List ℕ → List (List ℕ) → Option ChainFault
strange_in U chain [] = None
strange_in U chain (n ∷ ns) =
    if is_some (task_named U n) then strange_in U chain ns else Some (fault.NoSuchTask chain n)

-- the first of all chains' tasks
abbrev pub strange : List Task → List WrittenData → Option ChainFault
strange U [] = None
strange U (w ∷ ws) = option_or (strange_in U w.name w.tasks) (strange U ws)

-- the offset that a chain of these tasks has of one, where it does
abbrev pub offset_in : (tasks : List (List ℕ)) → (offsets : List ℕ) → (task : List ℕ) → Option ℕ
offset_in [] offsets task = None
offset_in (n ∷ ns) [] task = None
offset_in (n ∷ ns) (offset ∷ offsets) task =
    if same_bytes n task then Some offset else offset_in ns offsets task

-- that of the first of these chains that has one
abbrev pub offset_of : List WrittenData → (task : List ℕ) → Option ℕ
offset_of [] task = None
offset_of (w ∷ ws) task = option_or (offset_in w.tasks w.offsets task) (offset_of ws task)

-- a task may arrive at an offset: below its period, and no other than the chains before have of it
abbrev pub may_arrive : List Task → (before : List WrittenData) → (task : List ℕ) → (offset : ℕ) → Bool
may_arrive U before task offset =
    nat_lt offset (gap_of (task_at U (index_of U task)))
    && (unwrap_or (offset_of before task) offset == offset)

-- the first of a chain's tasks that may not arrive at the offset that it has there
abbrev pub bad_offset_in : List Task → (before : List WrittenData) → (chain : List ℕ) → List (List ℕ)
    → (offsets : List ℕ) → Option ChainFault
bad_offset_in U before chain [] offsets = None
bad_offset_in U before chain (n ∷ ns) [] = None
bad_offset_in U before chain (n ∷ ns) (offset ∷ offsets) =
    if may_arrive U before n offset then bad_offset_in U before chain ns offsets else Some (fault.BadOffset chain n)

-- the steps of its tasks, whatever their parts
abbrev pub steps_in : List Task → WrittenData → List Step
steps_in U w = steps_with U w.offsets [] (map (index_of U) w.tasks)

-- its tasks, and then how many arrivals come until all arrive as at first
abbrev pub clock_fault : List Task → (before : List WrittenData) → WrittenData → Option ChainFault
clock_fault U before w =
    option_or (bad_offset_in U before w.name w.tasks w.offsets)
    (if is_some (starts_of (steps_in U w)) then None else Some (fault.TooManyArrivals w.name))

-- the first chain whose offsets are none on one clock with those before it
abbrev pub clocks_fault : List Task → (before : List WrittenData) → List WrittenData → Option ChainFault
clocks_fault U before [] = None
clocks_fault U before (w ∷ ws) = option_or (clock_fault U before w) (clocks_fault U (before ++ w ∷ []) ws)

-- how many there are, their names, their tasks, and then their offsets
abbrev pub written_fault : List Task → List WrittenData → Option ChainFault
written_fault U ws =
    option_or (if nat_le (length ws) CHAIN_LIMIT then None else Some fault.TooManyChains)
    (option_or (option_map taken (first_repeat [] 1 ws))
    (option_or (strange U ws) (clocks_fault U [] ws)))

-- ---- of a set's text
-- these are the chains that it says of the set
abbrev pub HasChains : List ℕ → List Task → List ChainData → Type 0
HasChains text U chains =
    (ws : List WrittenData) × ReadsWritten text (Ok ws) × (written_fault U ws ≡ None)
    × (chains ≡ map (chain_of U) ws)

-- why it says none: the first fault of a document, or that of the chains together
abbrev pub HasNoChains : List ℕ → List Task → ChainFault → Type 0
HasNoChains text U fault.OutOfMemory = Unit {0}
HasNoChains text U e =
    ReadsWritten text (Err e)
    ⊎ ((ws : List WrittenData) × ReadsWritten text (Ok ws) × (written_fault U ws ≡ Some e))
