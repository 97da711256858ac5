-- What reading a task set by a preference answers.
use Rattle.std.specs.Prelude.{◌≡◌, ◌⊎◌, ℕ, List, [], Option, unwrap_or, Result, Ok, Err}
use Rattle.std.specs.Option.{option_or}
use Rattle.task_sheet.specs.Sheet.{Task}
use Rattle.task_sheet.specs.declared.prefer.Preference.{Preference}
use Rattle.task_sheet.specs.declared.prefer.Preference.TheVariants.{Weights, Deadline, Chains}
use Rattle.task_sheet.specs.declared.read.Document.{Document}
use Rattle.teams.specs.ReadsText.{ReadsText}
use Rattle.teams.specs.declared.fault.TeamsFault.{TeamsFault}
use Rattle.chain_tables.specs.Tables.{WrittenData}
use Rattle.chain_tables.specs.Documents.{ReadsWritten}
use Rattle.chain_tables.specs.declared.fault.ChainFault.{ChainFault}
use Rattle.preferences.specs.Preferences.{IsPreferred}
use Rattle.preferences.specs.declared.preferred.Preferred.{Preferred}

-- the preference of a choice: what the call says; where it says nothing, what the set says; else by weights
abbrev pub chosen : Option Preference → Option Preference → Preference
chosen call own = unwrap_or (option_or call own) Weights

-- the chains that a text says; none where those of a document are faulty
abbrev pub AreChainsOf : List ℕ → List WrittenData → Type 0
AreChainsOf text chains =
    ReadsWritten text (Ok chains)
    ⊎ ((fault : ChainFault) × ReadsWritten text (Err fault) × (chains ≡ []))

-- the chains by which the set of a text is preferred: by chains its own
abbrev pub AreChainsFor : Preference → List ℕ → List WrittenData → Type 0
AreChainsFor Weights text chains = chains ≡ []
AreChainsFor Deadline text chains = chains ≡ []
AreChainsFor Chains text chains = AreChainsOf text chains

-- the set of a text, by a preference
abbrev pub IsPreferredIn : Preference → List ℕ → List Task → List Task → Type 0
IsPreferredIn preference text U V =
    (chains : List WrittenData) × AreChainsFor preference text chains
    × IsPreferred preference chains U V

-- the set that the text says, by what the call and the set prefer; a refusal is that of reading the text
abbrev pub ReadsPreferred : Option Preference → List ℕ → Result Preferred TeamsFault → Type 0
ReadsPreferred call text (Ok p) =
    (d : Document)
    × ReadsText text (Ok d)
    × (p.choice.call ≡ call)
    × (p.choice.own ≡ d.prefers)
    × IsPreferredIn (chosen call d.prefers) text d.set p.set
ReadsPreferred call text (Err e) = ReadsText text (Err e)

-- the text says this set, by what the call and the set prefer
abbrev pub SaysPreferred : Option Preference → List ℕ → List Task → Type 0
SaysPreferred call text U =
    (d : Document) × ReadsText text (Ok d) × IsPreferredIn (chosen call d.prefers) text d.set U
