-- What readers have: a set, whose its tasks are, and which of them arrive on a clock.
use Rattle.std.specs.Prelude.{◌≡◌, ℕ, List, [], ◌∷◌, ◌++◌, flat_map, map, Option, Ok}
use Rattle.task_sheet.specs.Sheet.{Task}
use Rattle.task_sheet.specs.declared.prefer.Preference.{Preference}
use Rattle.preferences.specs.declared.asking.Asking.{Asking}
use Rattle.task_sheet.specs.declared.read.Document.{Document}
use Rattle.teams.specs.ReadsText.{ReadsText}
use Rattle.preferences.specs.ReadsAsked.{SaysAsked}
use Rattle.preferences.specs.ReadsPreferred.{chosen}
use Rattle.owners.specs.Owners.{AreOwners}
use Rattle.task_lines.specs.declared.owner.Owner.{Owner}
use Rattle.task_lines.specs.declared.owner.Owner.TheVariants.{Clocked}
use Rattle.streams.specs.Inputs.{IsReadFrom, IsReadUpTo}
use Rattle.chain_tables.specs.Chains.{ChainData, HasChains}

-- the tasks of a chain with offsets
abbrev pub clocked_if : (offsets tasks : List ℕ) → List Owner
clocked_if [] tasks = []
clocked_if (o ∷ os) tasks = map (λ i. Clocked i) tasks

-- those of all chains
abbrev pub clocked_by : List ChainData → List Owner
clocked_by chains = flat_map (λ c. clocked_if c.offsets c.tasks) chains

-- these say whose the tasks of a set are that bytes say, and which of them arrive on a clock
unfoldable pub AreOwnersOf : (bytes : List ℕ) → List Task → List Owner → Type 0
AreOwnersOf bytes U owners =
    (whose : List Owner) × (chains : List ChainData) × AreOwners bytes whose × HasChains bytes U chains
    × (owners ≡ whose ++ clocked_by chains)

-- bytes say a set as the call asks for it, and these of it
pub record SaysOwned (asking : Asking) (bytes : List ℕ) (U : List Task) (owners : List Owner) : Type 0 where
  pub set : SaysAsked asking bytes U
  pub whose : AreOwnersOf bytes U owners

-- the bytes that a reader has say both
abbrev pub HasOwned : Asking → Option (List ℕ) → List Task → List Owner → Type 0
HasOwned asking known U owners =
    (bytes : List ℕ) × IsReadFrom known bytes × SaysOwned asking bytes U owners

-- they say these chains of a set
abbrev pub HasChained : Option (List ℕ) → List Task → List ChainData → Type 0
HasChained known U chains = (bytes : List ℕ) × IsReadFrom known bytes × HasChains bytes U chains

-- by this preference a set is taken that bytes say
abbrev pub IsTakenBy : Asking → List ℕ → Preference → Type 0
IsTakenBy asking bytes by =
    (d : Document) × ReadsText bytes (Ok d) × (by ≡ chosen asking.prefer d.prefers)

-- the bytes that a reader has say both, and the set is taken by this preference
abbrev pub HasTaken :
    Asking → Option (List ℕ) → Preference → List Task → List Owner → Type 0
HasTaken asking known by U owners =
    (bytes : List ℕ) × IsReadFrom known bytes × SaysOwned asking bytes U owners
    × IsTakenBy asking bytes by

-- one reader has both, and the other a text of at most so many bytes
abbrev pub HaveOwned :
    (most : ℕ) → Asking → (set other : Option (List ℕ)) → Preference → List Task → List Owner → List ℕ
    → Type 0
HaveOwned most asking set other by U owners text =
    HasTaken asking set by U owners × IsReadUpTo most other text
