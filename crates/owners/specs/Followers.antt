-- The sections that begin where the one before them ends, for their documents don't say where.
use Rattle.std.specs.Prelude.{◌≡◌, ◌⊎◌, ℕ, zero, suc, ◌+◌, ◌==◌, Bool, true, false, ◌&&◌, List, [], ◌∷◌, ◌++◌, codes, Option, None, Some, option_and_then, option_map, unwrap_or, if◌then◌else◌}
use Rattle.std.specs.List.{list_any}
use Rattle.std.specs.Option.{is_none}
use Rattle.toml.specs.Data.{Data, Items, no_items, item, Members, get_member, as_array, as_str, as_table}
use Rattle.task_sheet.specs.Sheet.{same_bytes}
use Rattle.task_sheet.specs.ReadsSet.{IsDocument}
use Rattle.lines.specs.Words.{name_in}
use Rattle.teams.specs.Gathering.{HasNoHead, HasNoNode, IsFirstPart, IsNodePart}
use Rattle.teams.specs.declared.reading.Part.{Part}
use Rattle.task_lines.specs.declared.owner.Owner.{Owner}
use Rattle.task_lines.specs.declared.owner.Owner.TheVariants.{Task as OwnedTask, Interrupt as OwnedInterrupt, Follower, Clocked}

-- ---- in a document's tree
-- the items of an array; none of another value
abbrev pub items_in : Data → Items
items_in d = unwrap_or (as_array d) no_items

-- the items of the array at a key; none where there is no array
abbrev pub items_at : List ℕ → Members → Items
items_at word ms = unwrap_or (option_map items_in (get_member word ms)) no_items

-- the text at a key
abbrev pub text_at : List ℕ → Members → Option (List ℕ)
text_at word ms = option_and_then as_str (get_member word ms)

-- it is the table of a section that has no key `at`
abbrev pub says_no_begin : Data → Bool
says_no_begin d = unwrap_or (option_map (λ ms. is_none (get_member (codes "at") ms)) (as_table d)) false

-- the section of a task at a place, where it follows
abbrev pub follower_if : Bool → List ℕ → ℕ → List Owner
follower_if true task place = Follower task place ∷ []
follower_if false task place = []

-- the sections of a task that have none, of which the first stands at a place
abbrev pub followers_from : List ℕ → ℕ → Items → List Owner
followers_from task place no_items = []
followers_from task place (item d ds) =
    follower_if (says_no_begin d) task place ++ followers_from task (place + 1) ds

-- the name of a task's table, where it has one
abbrev pub task_word : Members → Option (List ℕ)
task_word ms = option_and_then name_in (text_at (codes "name") ms)

abbrev pub followers_named : Option (List ℕ) → Members → List Owner
followers_named None ms = []
followers_named (Some task) ms = followers_from task 0 (items_at (codes "section") ms)

-- those of a task's table
abbrev pub followers_in : Members → List Owner
followers_in ms = followers_named (task_word ms) ms

-- the same of a value; none where it is no table
abbrev pub followers_by : Data → List Owner
followers_by d = unwrap_or (option_map followers_in (as_table d)) []

-- those of each
abbrev pub followers_of : Items → List Owner
followers_of no_items = []
followers_of (item d ds) = followers_by d ++ followers_of ds

abbrev pub tree_followers : Members → List Owner
tree_followers ms = followers_of (items_at (codes "task") ms)

-- ---- in a text
-- these are the ones of a document; none where the text is no document
abbrev pub AreFollowersIn : List ℕ → List Owner → Type 0
AreFollowersIn text owners =
    ((tree : Members) × IsDocument text tree × (owners ≡ tree_followers tree))
    ⊎ (((tree : Members) → IsDocument text tree → ⊥) × (owners ≡ []))

-- these are the ones of these documents, with which a text begins, and of no others
abbrev pub AreFollowersOf : List Part → List ℕ → List Owner → Type 0
AreFollowersOf [] text owners = HasNoHead text × (owners ≡ [])
AreFollowersOf (p ∷ ps) text owners =
    (after : List ℕ) × (own : List Owner) × (more : List Owner)
    × IsFirstPart text p.team p.text.now after × AreFollowersIn p.text.now own
    × AreFollowersOf ps after more
    × (owners ≡ own ++ more)

-- of all teams' documents with which a text begins
abbrev pub AreFollowersOfText : List ℕ → List Owner → Type 0
AreFollowersOfText text owners = (ps : List Part) × AreFollowersOf ps text owners

-- the node's document may stand before them; it has no tasks
abbrev pub AreFollowersBehind : List ℕ → List Owner → Type 0
AreFollowersBehind text owners =
    ((document : List ℕ) × (after : List ℕ) × IsNodePart text document after
    × AreFollowersOfText after owners)
    ⊎ (HasNoNode text × AreFollowersOfText text owners)

-- by whether a text is documents of teams, or one
abbrev pub AreFollowersIf : Bool → List ℕ → List Owner → Type 0
AreFollowersIf true text owners = AreFollowersBehind text owners
AreFollowersIf false text owners = AreFollowersIn text owners

-- ---- what moves along
-- it is the section at a place of the task of a name
abbrev pub is_follower : Owner → List ℕ → ℕ → Bool
is_follower (OwnedTask task team) name place = false
is_follower (OwnedInterrupt team) name place = false
is_follower (Follower task own) name place = same_bytes task name && own == place
is_follower (Clocked task) name place = false

-- that section begins where the one before it ends
abbrev pub follows : List Owner → List ℕ → ℕ → Bool
follows owners name place = list_any (λ o. is_follower o name place) owners

-- how many of the sections behind the one at a place follow, up to the first that doesn't
abbrev pub along : List Owner → List ℕ → (place behind : ℕ) → ℕ
along owners name place zero = 0
along owners name place (suc behind) =
    if follows owners name (place + 1) then suc (along owners name (place + 1) behind) else 0
