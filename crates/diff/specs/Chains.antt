-- The lines of what a change does to a set's chains.
use Rattle.std.specs.Prelude.{ℕ, ◌-◌, ◌==◌, nat_le, nat_lt, Bool, true, false, ◌&&◌, List, [], ◌∷◌, ◌++◌, codes, slice_get, Option, Some, None, if◌then◌else◌}
use Rattle.std.specs.List.{find}
use Rattle.std.specs.Fmt.{decimal}
use Rattle.task_sheet.specs.Sheet.{Task, same_bytes}
use Rattle.lines.specs.Known.{some_words}
use Rattle.lines.specs.Naming.{name_at}
use Rattle.chains.specs.Parts.{bound_in}
use Rattle.chains.specs.declared.bounds.Level.{Level}
use Rattle.chains.specs.declared.bounds.Writes.{Writes}
use Rattle.chains.specs.declared.bounds.Writes.TheVariants.{AtFinish, AtDeadline}
use Rattle.chain_tables.specs.Chains.{ChainData}
use Rattle.diff.specs.ChangeLines.{word_of}
use Rattle.diff.specs.Whole.{same_number}
use Rattle.diff.specs.declared.text.Kind.{Kind}
use Rattle.diff.specs.declared.text.Kind.TheVariants.{Removed, Added, Changed, Slower, Faster}

-- ---- what a chain says
-- two tasks have the same name
abbrev pub same_name : Option Task → Option Task → Bool
same_name None None = true
same_name None (Some new) = false
same_name (Some old) None = false
same_name (Some old) (Some new) = same_bytes old.name new.name

-- two lists of tasks, each of its set, have the same names
abbrev pub same_tasks : List Task → List ℕ → List Task → List ℕ → Bool
same_tasks U [] V [] = true
same_tasks U [] V (task ∷ tasks) = false
same_tasks U (task ∷ tasks) V [] = false
same_tasks U (old ∷ olds) V (new ∷ news) =
    same_name (slice_get U old) (slice_get V new) && same_tasks U olds V news

-- tasks write as they did
abbrev pub same_writes : Writes → Writes → Bool
same_writes AtFinish AtFinish = true
same_writes AtDeadline AtDeadline = true
same_writes _ _ = false

-- two lists have the same offsets
abbrev pub same_offsets : List ℕ → List ℕ → Bool
same_offsets [] [] = true
same_offsets [] (new ∷ news) = false
same_offsets (old ∷ olds) [] = false
same_offsets (old ∷ olds) (new ∷ news) = (old == new) && same_offsets olds news

-- two chains say the same, beside their names
abbrev pub same_chain : List Task → ChainData → List Task → ChainData → Bool
same_chain U old V new =
    same_tasks U old.tasks V new.tasks && same_number old.limit new.limit
    && same_offsets old.offsets new.offsets && same_writes old.writes new.writes

-- the chain of a name, where there is one
abbrev pub chain_named : List ChainData → List ℕ → Option ChainData
chain_named chains name = find (λ chain. same_bytes chain.name name) chains

-- ---- words
-- what a limit leaves of a bound, less than nothing where the bound is past it; `-` where one of them is missing
abbrev pub slack_words : (bound limit : Option ℕ) → List ℕ
slack_words None limit = codes "-"
slack_words (Some bound) None = codes "-"
slack_words (Some bound) (Some limit) =
    if nat_le bound limit then decimal (limit - bound) else codes "-" ++ decimal (bound - limit)

-- a bound before and after
abbrev pub bounds_words : (was is : Option ℕ) → List ℕ
bounds_words was is = codes " bound " ++ some_words was ++ codes " " ++ some_words is

-- what the limits leave of it
abbrev pub slacks_words : (was old is new : Option ℕ) → List ℕ
slacks_words was old is new = codes " slack " ++ slack_words was old ++ codes " " ++ slack_words is new

-- what becomes of a chain, its name, and that
unfoldable pub chain_words : Kind → (name : List ℕ) → (was old is new : Option ℕ) → List ℕ
chain_words kind name was old is new =
    word_of kind ++ codes " chain " ++ name ++ bounds_words was is ++ slacks_words was old is new

-- the names of tasks, each behind a sign `+`
abbrev pub plus_tasks : List Task → List ℕ → List ℕ
plus_tasks U [] = []
plus_tasks U (task ∷ tasks) = codes "+" ++ name_at U task ++ plus_tasks U tasks

-- the same with a sign between each two
abbrev pub tasks_word : List Task → List ℕ → List ℕ
tasks_word U [] = []
tasks_word U (task ∷ tasks) = name_at U task ++ plus_tasks U tasks

-- the tasks before and after, where they are others
abbrev pub tasks_words : List Task → List ℕ → List Task → List ℕ → List ℕ
tasks_words U olds V news =
    if same_tasks U olds V news then []
    else codes " tasks " ++ tasks_word U olds ++ codes " " ++ tasks_word V news

-- the limit before and after, where it is another
abbrev pub limit_words : (old new : Option ℕ) → List ℕ
limit_words old new =
    if same_number old new then []
    else codes " limit " ++ some_words old ++ codes " " ++ some_words new

-- offsets, each behind a sign `+`
abbrev pub plus_offsets : List ℕ → List ℕ
plus_offsets [] = []
plus_offsets (offset ∷ offsets) = codes "+" ++ decimal offset ++ plus_offsets offsets

-- the same with a sign between each two; `-` of none
abbrev pub offsets_word : List ℕ → List ℕ
offsets_word [] = codes "-"
offsets_word (offset ∷ offsets) = decimal offset ++ plus_offsets offsets

-- the offsets before and after, where they are others
abbrev pub offsets_words : (olds news : List ℕ) → List ℕ
offsets_words olds news =
    if same_offsets olds news then []
    else codes " offsets " ++ offsets_word olds ++ codes " " ++ offsets_word news

-- what a document calls it
abbrev pub writes_word : Writes → List ℕ
writes_word AtFinish = codes "finish"
writes_word AtDeadline = codes "deadline"

-- when the tasks write before and after, where that is another
abbrev pub writes_words : (old new : Writes) → List ℕ
writes_words old new =
    if same_writes old new then []
    else codes " writes " ++ writes_word old ++ codes " " ++ writes_word new

-- the keys in which a chain says something else
unfoldable pub chain_keys : List Task → ChainData → List Task → ChainData → List ℕ
chain_keys U old V new =
    codes " keys" ++ tasks_words U old.tasks V new.tasks ++ limit_words old.limit new.limit
    ++ offsets_words old.offsets new.offsets ++ writes_words old.writes new.writes

-- ---- each chain
-- the line of a chain that is gone
abbrev pub chain_gone_to : List Task → List Level → ChainData → Option ChainData → List ℕ
chain_gone_to U was old (Some new) = []
chain_gone_to U was old None =
    chain_words Removed old.name (bound_in old.writes old.offsets U was old.tasks) old.limit None None ++ codes "\n"

-- the same, where no new chain has its name
abbrev pub chain_gone : List Task → List Level → List ChainData → ChainData → List ℕ
chain_gone U was news old = chain_gone_to U was old (chain_named news old.name)

-- the line of a chain that was there before, and says something else
abbrev pub chain_other : List Task → List Level → ChainData → List Task → List Level → ChainData → List ℕ
chain_other U was old V is new =
    if same_chain U old V new then []
    else chain_words Changed new.name (bound_in old.writes old.offsets U was old.tasks) old.limit
    (bound_in new.writes new.offsets V is new.tasks) new.limit
    ++ chain_keys U old V new ++ codes "\n"

-- the line of what was done to a chain, which was there before or not
abbrev pub chain_edit_of : List Task → List Level → Option ChainData → List Task → List Level → ChainData → List ℕ
chain_edit_of U was (Some old) V is new = chain_other U was old V is new
chain_edit_of U was None V is new =
    chain_words Added new.name None None (bound_in new.writes new.offsets V is new.tasks) new.limit ++ codes "\n"

abbrev pub chain_edit : List Task → List Level → List ChainData → List Task → List Level → ChainData → List ℕ
chain_edit U was olds V is new = chain_edit_of U was (chain_named olds new.name) V is new

-- what becomes of a bound, where anything does
abbrev pub bound_effect : (was is : ℕ) → Option Kind
bound_effect was is =
    if nat_lt was is then Some Slower else if nat_lt is was then Some Faster else None

-- the line of a chain that says the same, where this becomes of its bound
abbrev pub chain_effect : ChainData → (was is : ℕ) → Option Kind → List ℕ
chain_effect new was is None = []
chain_effect new was is (Some kind) =
    chain_words kind new.name (Some was) new.limit (Some is) new.limit ++ codes "\n"

-- the same, where there is a bound before and after
abbrev pub chain_moved : ChainData → (was is : Option ℕ) → List ℕ
chain_moved new None is = []
chain_moved new (Some was) None = []
chain_moved new (Some was) (Some is) = chain_effect new was is (bound_effect was is)

-- the line of what comes of a change to a chain that it leaves as it was
abbrev pub chain_kept : List Task → List Level → ChainData → List Task → List Level → ChainData → List ℕ
chain_kept U was old V is new =
    if same_chain U old V new then
    chain_moved new (bound_in old.writes old.offsets U was old.tasks) (bound_in new.writes new.offsets V is new.tasks)
    else []

abbrev pub chain_rest_of : List Task → List Level → Option ChainData → List Task → List Level → ChainData → List ℕ
chain_rest_of U was None V is new = []
chain_rest_of U was (Some old) V is new = chain_kept U was old V is new

abbrev pub chain_rest : List Task → List Level → List ChainData → List Task → List Level → ChainData → List ℕ
chain_rest U was olds V is new = chain_rest_of U was (chain_named olds new.name) V is new

-- ---- all
-- what is said of each
abbrev pub each_chain : (ChainData → List ℕ) → List ChainData → List ℕ
each_chain line [] = []
each_chain line (chain ∷ chains) = line chain ++ each_chain line chains

-- the chains that are gone; those that came, and those that say something else; then, of the others, those whose bounds are
-- other ones: each as written. The levels are those of the best orders; none where no order passes
abbrev pub chain_changes : List Task → List Level → List ChainData → List Task → List Level → List ChainData → List ℕ
chain_changes U was olds V is news =
    each_chain (chain_gone U was news) olds
    ++ each_chain (chain_edit U was olds V is) news
    ++ each_chain (chain_rest U was olds V is) news
