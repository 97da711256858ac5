-- What reading a task set as a call asks for it answers.
use Rattle.std.specs.Prelude.{◌≡◌, ℕ, Bool, true, false, List, Option, Some, None, is_none, Result, Ok, Err, if◌then◌else◌}
use Rattle.std.specs.Option.{option_or}
use Rattle.task_sheet.specs.Sheet.{Task}
use Rattle.task_sheet.specs.declared.prefer.Preference.{Preference}
use Rattle.task_sheet.specs.declared.read.Document.{Document}
use Rattle.teams.specs.ReadsText.{ReadsText}
use Rattle.teams.specs.Strictness.{SaysStrict}
use Rattle.doubts.specs.Doubts.{doubts_of, first_of}
use Rattle.doubts.specs.declared.doubt.Doubt.{Doubt as DoubtData}
use Rattle.preferences.specs.ReadsPreferred.{IsPreferredIn, chosen}
use Rattle.preferences.specs.declared.asking.Asking.{Asking}
use Rattle.preferences.specs.declared.asking.Strictness.{Strictness}
use Rattle.preferences.specs.declared.asking.Strictness.TheVariants.{Lenient, AsSaid, Strict}
use Rattle.preferences.specs.declared.asking.AskedFault.{AskedFault}
use Rattle.preferences.specs.declared.asking.AskedFault.TheVariants.{Text, Doubt, Chain}
use Rattle.preferences.specs.declared.asking.Asked.{Asked}
use Rattle.preferences.specs.declared.choice.Choice.{Choice}
use Rattle.teams.specs.declared.fault.TeamsFault.TheVariants.{OutOfMemory}
use Rattle.chain_tables.specs.Chains.{ChainData, HasChains, HasNoChains}
use Rattle.chain_tables.specs.declared.fault.ChainFault.{ChainFault}

-- the same, and so strict
abbrev pub asking_so : Strictness → Asking → Asking
asking_so strictness asking = record asking { strictness = strictness }

-- the same, though the set may have doubts, whatever its text asks
abbrev pub lenient : Asking → Asking
lenient asking = asking_so Lenient asking

-- whether the first doubt of the set that a text says is told: as the call asks, or lets the text ask
abbrev pub IsTold : Strictness → List ℕ → (told : Bool) → Type 0
IsTold Lenient text told = told ≡ false
IsTold AsSaid text told = SaysStrict text told
IsTold Strict text told = told ≡ true

-- the first doubt of a set, where it is told; names decide only where neither the call nor the set prefers anything
abbrev pub doubt_told :
    (told : Bool) → (call own : Option Preference) → List Task → Option DoubtData
doubt_told told call own U =
    if told then first_of (doubts_of (is_none (option_or call own)) U) else None

-- this is the first doubt of the set that a text says, where it is told
abbrev pub TellsDoubt :
    Asking → (text : List ℕ) → (own : Option Preference) → List Task → Option DoubtData → Type 0
TellsDoubt asking text own U doubt =
    (told : Bool) × IsTold asking.strictness text told
    × (doubt_told told asking.prefer own U ≡ doubt)

-- the text says chains of the set
abbrev pub IsChained : List ℕ → List Task → Type 0
IsChained text U = (chains : List ChainData) × HasChains text U chains

-- the text says this set by what the call and the set prefer, it has no doubt, where one is told, and its chains are some
abbrev pub SaysAsked : Asking → List ℕ → List Task → Type 0
SaysAsked asking text U =
    (d : Document) × ReadsText text (Ok d) × IsPreferredIn (chosen asking.prefer d.prefers) text d.set U
    × TellsDoubt asking text d.prefers U None × IsChained text U

-- the set that the text says so has a doubt that is told: this first
abbrev pub IsDoubted : Asking → List ℕ → DoubtData → Type 0
IsDoubted asking text doubt =
    (d : Document) × (U : List Task) × ReadsText text (Ok d)
    × IsPreferredIn (chosen asking.prefer d.prefers) text d.set U
    × TellsDoubt asking text d.prefers U (Some doubt)

-- the set that the text says so has no doubt that is told, but chains that are none, for this reason
abbrev pub IsUnchained : Asking → List ℕ → ChainFault → Type 0
IsUnchained asking text fault =
    (d : Document) × (U : List Task) × ReadsText text (Ok d)
    × IsPreferredIn (chosen asking.prefer d.prefers) text d.set U
    × TellsDoubt asking text d.prefers U None × HasNoChains text U fault

-- a set, with the chains that its text says of it; or why they are none
abbrev pub ReadsChained : List ℕ → List Task → Choice → Result Asked AskedFault → Type 0
ReadsChained text U choice (Ok a) =
    (a.set ≡ U) × (a.choice ≡ choice) × HasChains text U a.chains.items
ReadsChained text U choice (Err (Text OutOfMemory)) = Unit {0}
ReadsChained text U choice (Err (Chain fault)) = HasNoChains text U fault
ReadsChained text U choice (Err _) = ⊥

-- the set that the text says, as it is asked for, with its chains; refused are a text that is none, then a set with a
-- doubt, and then chains that are none
abbrev pub ReadsAsked : Asking → List ℕ → Result Asked AskedFault → Type 0
ReadsAsked asking text (Ok p) =
    (d : Document)
    × ReadsText text (Ok d)
    × (p.choice.call ≡ asking.prefer)
    × (p.choice.own ≡ d.prefers)
    × IsPreferredIn (chosen asking.prefer d.prefers) text d.set p.set
    × TellsDoubt asking text d.prefers p.set None
    × HasChains text p.set p.chains.items
ReadsAsked asking text (Err (Text fault)) = ReadsText text (Err fault)
ReadsAsked asking text (Err (Doubt doubt)) = IsDoubted asking text doubt
ReadsAsked asking text (Err (Chain fault)) = IsUnchained asking text fault
