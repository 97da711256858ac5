use Rattle.std.proofs.Common.{ℕ, List, Option, Ok, Err, Result, inr}
use Rattle.std.specs.Global.{Vec}
use Rattle.preferences.specs.declared.asking.Asking.{Asking}
use Rattle.task_sheet.specs.Sheet.{Task}
use Rattle.ceiling_kernel.specs.declared.trace.Release.{Release}
use Rattle.chain_tables.specs.Chains.{ChainData}
use Rattle.task_lines.specs.declared.owner.Owner.{Owner}
use Rattle.answering.specs.Owning.{HasChained, HasOwned}
use Rattle.answering.specs.declared.refusal.CommandRefusal.{CommandRefusal}
use Rattle.set_commands.specs.Releases.{Lists, ListsOf}
use Rattle.set_commands.proofs.releases.list.Goals as goal

-- the answer on a set and its chains is that on what the reader has
answered : (seed : Option ℕ) (until : ℕ) {asking : Asking} {known : Option (List ℕ)} {U : List Task}
    {owners : List Owner} {chains : List ChainData} → HasOwned asking known U owners
    → HasChained known U chains → (found : Result (Vec Release) CommandRefusal)
    → ListsOf seed until U chains found → Lists asking seed until known found
answered seed until {U = U} {chains = chains} has said (Ok releases) lists =
    (U, chains, (has.0, has.1, has.2.set), said, lists)
answered seed until {U = U} {chains = chains} has said (Err r) lists =
    inr (U, chains, (has.0, has.1, has.2.set), said, lists)

pub returns-clause-answer : goal.returns-clause-answer
returns-clause-answer g c =
    answered c.args.seed c.args.until c.in_ok-tasks.ensures.answer c.in_ok-tasks.ensures.chains c.list_of-releases.result
    (rw c.deref.ensures.value at c.list_of-releases.ensures)
