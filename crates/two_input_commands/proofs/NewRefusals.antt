-- Why a text says no new set is why nothing is compared.
use Rattle.std.proofs.Common.{ℕ, List, Err}
use Rattle.task_sheet.specs.Sheet.{Task}
use Rattle.task_sheet.specs.declared.prefer.Preference.{Preference}
use Rattle.chain_tables.specs.Chains.{ChainData}
use Rattle.preferences.specs.ReadsAsked.{ReadsAsked}
use Rattle.preferences.specs.declared.asking.Asking.{Asking}
use Rattle.preferences.specs.declared.asking.AskedFault.{AskedFault}
use Rattle.preferences.specs.declared.asking.AskedFault.TheVariants.{Text, Doubt, Chain}
use Rattle.answering.specs.declared.refusal.CommandRefusal.{CommandRefusal}
use Rattle.answering.specs.declared.refusal.CommandRefusal.TheVariants as refusal
use Rattle.two_input_commands.specs.Diff.{ComparesText, IsNoNew, new_refusal}

-- the fault of a set as it is asked for, as a refusal
pub new_refused_as : (asking : Asking) (text : List ℕ) (fault : AskedFault)
    → ReadsAsked asking text (Err fault) → IsNoNew asking text (new_refusal fault)
new_refused_as asking text (Text fault) reads = reads
new_refused_as asking text (Doubt doubt) reads = reads
new_refused_as asking text (Chain fault) reads = reads

-- it is the answer
pub new_refused : (asking : Asking) (by : Preference) (chains : List ChainData) (U : List Task)
    (text : List ℕ) (r : CommandRefusal) → IsNoNew asking text r
    → ComparesText asking by chains U text (Err r)
new_refused asking by chains U text (refusal.New fault) reads = reads
new_refused asking by chains U text (refusal.NewDoubtful doubt) reads = reads
new_refused asking by chains U text (refusal.NewChain fault) reads = reads
new_refused asking by chains U text _ reads = absurd reads
