-- A set that is asked for, with its chains.
use Rattle.std.proofs.Common.{◌≡◌, ◌∙◌, ℕ, List, None, Result, Ok, Err, sym, subst, ap}
use Rattle.task_sheet.specs.Sheet.{Task}
use Rattle.task_sheet.specs.declared.read.Document.{Document}
use Rattle.teams.specs.ReadsText.{ReadsText}
use Rattle.teams.specs.declared.fault.TeamsFault.TheVariants.{OutOfMemory}
use Rattle.chain_tables.specs.Chains.{HasChains}
use Rattle.preferences.specs.ReadsPreferred.{IsPreferredIn, chosen}
use Rattle.preferences.specs.ReadsAsked.{ReadsAsked, ReadsChained, TellsDoubt}
use Rattle.preferences.specs.declared.asking.Asked.{Asked}
use Rattle.preferences.specs.declared.asking.AskedFault.{AskedFault}
use Rattle.preferences.specs.declared.asking.AskedFault.TheVariants.{Text, Chain}
use Rattle.preferences.specs.declared.asking.Asking.{Asking}
use Rattle.preferences.specs.declared.choice.Choice.{Choice}

-- what is answered of its chains is what is answered of the text
pub asked_by : (asking : Asking) (text : List ℕ) (d : Document) (U : List Task) (choice : Choice)
    → ReadsText text (Ok d) → choice.call ≡ asking.prefer → choice.own ≡ d.prefers
    → IsPreferredIn (chosen asking.prefer d.prefers) text d.set U → TellsDoubt asking text d.prefers U None
    → (r : Result Asked AskedFault) → ReadsChained text U choice r → ReadsAsked asking text r
asked_by asking text d U choice reads call own is tells (Ok a) (set, chooses, has) = (
  d,
  reads,
  ap (λ (c : Choice). c.call) chooses ∙ call,
  ap (λ (c : Choice). c.own) chooses ∙ own,
  subst (λ (V : List Task). IsPreferredIn (chosen asking.prefer d.prefers) text d.set V) (sym set) is,
  subst (λ (V : List Task). TellsDoubt asking text d.prefers V None) (sym set) tells,
  subst (λ (V : List Task). HasChains text V a.chains.items) (sym set) has,
)
asked_by asking text d U choice reads call own is tells (Err (Text OutOfMemory)) refused = tt
asked_by asking text d U choice reads call own is tells (Err (Chain fault)) refused =
    (d, U, reads, is, tells, refused)
asked_by asking text d U choice reads call own is tells (Err _) refused = absurd refused
