-- What `desk diff` answers and prints.
use Rattle.std.specs.Prelude.{◌≡◌, ℕ, List, ◌++◌, codes, string_bytes, None, Result, Ok, Err}
use Rattle.task_sheet.specs.declared.prefer.Preference.{Preference}
use Rattle.preferences.specs.declared.asking.Asking.{Asking}
use Rattle.task_sheet.specs.declared.read.Document.{Document}
use Rattle.preferences.specs.ReadsPreferred.{IsPreferredIn, chosen}
use Rattle.preferences.specs.ReadsAsked.{IsChained, IsDoubted, IsUnchained, TellsDoubt, lenient}
use Rattle.preferences.specs.declared.asking.AskedFault.{AskedFault}
use Rattle.preferences.specs.declared.asking.AskedFault.TheVariants as asked
use Rattle.task_sheet.specs.Sheet.{Task}
use Rattle.teams.specs.ReadsText.{ReadsText}
use Rattle.owners.specs.Owners.{AreOwners}
use Rattle.task_lines.specs.declared.owner.Owner.{Owner}
use Rattle.assignment.specs.Placings.{IsPlacingOf}
use Rattle.assignment.specs.declared.placing.Placing.{Placing}
use Rattle.chain_tables.specs.Chains.{ChainData, HasChains}
use Rattle.chain_lines.specs.ChainLines.{all_met}
use Rattle.diff.specs.Chains.{chain_changes}
use Rattle.diff.specs.ChangeLines.{change_lines}
use Rattle.diff.specs.Whole.{both_weigh, whole_lines}
use Rattle.answering.specs.Statuses.{placing_status}
use Rattle.answering.specs.OrderParts.{placing_first}
use Rattle.least_chains.specs.LeastBound.{levels_of}
use Rattle.answering.specs.OnBoth.{OfBoth}
use Rattle.answering.specs.Printed.{Answers}
use Rattle.two_input_commands.specs.declared.chained.ChainsTold.{ChainsTold}
use Rattle.two_input_commands.specs.declared.diff_lines.Compared.{Compared}
use Rattle.answering.specs.declared.refusal.CommandRefusal.{CommandRefusal}
use Rattle.answering.specs.declared.refusal.CommandRefusal.TheVariants as refusal

-- the text says this set and its chains, as the call asks for it, taken by this preference
abbrev pub IsNew : Asking → List ℕ → List Task → Preference → Type 0
IsNew asking text V by =
    (d : Document) × ReadsText text (Ok d) × IsPreferredIn (chosen asking.prefer d.prefers) text d.set V
    × (by ≡ chosen asking.prefer d.prefers)
    × TellsDoubt asking text d.prefers V None × IsChained text V

-- why a text says no new set as it is asked for, as a refusal
abbrev pub new_refusal : AskedFault → CommandRefusal
new_refusal (asked.Text fault) = refusal.New fault
new_refusal (asked.Doubt doubt) = refusal.NewDoubtful doubt
new_refusal (asked.Chain fault) = refusal.NewChain fault

-- a text says no new set as the call asks for it: its first fault, the first doubt of the set, or the first
-- fault of its chains
abbrev pub IsNoNew : Asking → List ℕ → CommandRefusal → Type 0
IsNoNew asking text (refusal.New fault) = ReadsText text (Err fault)
IsNoNew asking text (refusal.NewDoubtful doubt) = IsDoubted asking text doubt
IsNoNew asking text (refusal.NewChain fault) = IsUnchained asking text fault
IsNoNew asking text _ = ⊥

-- these lines are what a change does to a set's chains, where this becomes of both sets, and this is whether the bound of
-- each of the new set's is within its limit
pub record AreCompared (olds : List ChainData) (U : List Task) (P : Placing) (news : List ChainData)
    (V : List Task) (Q : Placing) (told : ChainsTold) : Type 0 where
  pub text : string_bytes told.text ≡ chain_changes U (levels_of P) olds V (levels_of Q) news
  pub met : told.are_met ≡ all_met V (levels_of Q) news

-- the text says the new set, and this becomes of both, of which the old one has these chains and was taken by a preference
pub record IsComparison (asking : Asking) (by : Preference) (olds : List ChainData) (U : List Task)
    (text : List ℕ) (c : Compared) : Type 0 where
  pub old : c.was_by ≡ by
  pub new : IsNew asking text c.set c.is_by
  pub owners : AreOwners text c.owners.items
  pub was : IsPlacingOf U c.was
  pub is : IsPlacingOf c.set c.is
  pub chains : (news : List ChainData) × HasChains text c.set news
      × AreCompared olds U c.was news c.set c.is c.chains

-- the answer on a set and the text of the new one
abbrev pub ComparesText :
    Asking → Preference → List ChainData → List Task → List ℕ → Result Compared CommandRefusal → Type 0
ComparesText asking by chains U text (Ok c) = IsComparison asking by chains U text c
ComparesText asking by chains U text (Err (refusal.New fault)) = ReadsText text (Err fault)
ComparesText asking by chains U text (Err (refusal.NewDoubtful doubt)) = IsDoubted asking text doubt
ComparesText asking by chains U text (Err (refusal.NewChain fault)) = IsUnchained asking text fault
ComparesText asking by chains U text (Err refusal.OutOfMemory) = Unit {0}
ComparesText asking by chains U text _ = ⊥

-- what becomes of the new set, and what became of the old one
abbrev pub both_lines : List Task → Placing → List Task → Placing → List ℕ
both_lines U P V Q = placing_first V Q ++ codes "was " ++ placing_first U P

-- these, then what of the change no task has, each interrupt with its team, then what becomes of the tasks, each with
-- its team: that of the new set, where it has the task, else that of the old one; and last what becomes of the chains
abbrev pub compared_lines : List Owner → List Task → Compared → List ℕ
compared_lines owners U c =
    both_lines U c.was c.set c.is
    ++ whole_lines c.was_by owners U c.is_by c.owners.items c.set
    ++ change_lines (both_weigh c.was_by c.is_by) (c.owners.items ++ owners) U c.was c.set c.is
    ++ string_bytes c.chains.text

-- the answer on both; the status is that of the new set
abbrev pub ComparesBoth : Asking → OfBoth
ComparesBoth asking both =
    Answers (ComparesText asking both.by both.chains.items both.tasks both.text.items)
    (compared_lines both.owners.items both.tasks) (λ c. placing_status c.is)
