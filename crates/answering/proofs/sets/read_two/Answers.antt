use Rattle.std.proofs.Common.{ℕ, List, Result, MatchResult, rules, subst}
use Rattle.streams.specs.Inputs.{IsReadFrom, IsReadUpTo}
use Rattle.chain_tables.specs.Chains.{HasChains}
use Rattle.preferences.specs.declared.asking.Asking.{Asking}
use Rattle.answering.specs.Owning.{IsTakenBy, SaysOwned}
use Rattle.answering.specs.Sets.{IsNoSet}
use Rattle.answering.specs.declared.sets.Taken.{Taken}
use Rattle.answering.specs.declared.refusal.CommandRefusal.{CommandRefusal}
use Rattle.answering.proofs.SetRefusals.{both_refused}
use Rattle.answering.proofs.sets.read_two.Goals as goal

-- what bytes say, or why they are no set
abbrev SaysOrRefuses : Asking → List ℕ → Result Taken CommandRefusal → Type 0
SaysOrRefuses asking bytes answer =
    MatchResult answer (λ taken. SaysOwned asking bytes taken.tasks taken.owners.items
    × IsTakenBy asking bytes taken.by × HasChains bytes taken.tasks taken.chains.items)
    (λ r. IsNoSet asking bytes r)

pub returns-clause-answer : goal.returns-clause-answer
returns-clause-answer g c =
    let set = g.R.Read.remaining c.args.set.now.inner in
    let other = g.S.Read.remaining c.args.other.now.inner in
    let bytes : List ℕ = c.in_ok-bytes.bytes.items in
    let text : List ℕ = c.in_ok-text.text.items in
    let first : IsReadFrom set bytes = search rules in
    let second : IsReadUpTo c.args.most other text = search rules in
    let reads : SaysOrRefuses c.args.asking bytes c.taken_told.result =
    subst (λ (bs : List ℕ). SaysOrRefuses c.args.asking bs c.taken_told.result)
    c.deref.ensures.value c.taken_told.ensures in
    search (rules, both_refused c.args.most c.args.asking set other bytes text first second)
