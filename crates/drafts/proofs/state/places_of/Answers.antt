use Rattle.std.proofs.Common.{◌≡◌, ◌∙◌, ◌<◌, ◌==◌, length, get_or, sym, ap, arith}
use Rattle.std.specs.FinSet.{contains, contains-empty}
use Rattle.std.specs.Ordering.{nat_cmp}
use Rattle.std.proofs.lemmas.Bool.Decides.{nat_tests}
use Rattle.std.proofs.lemmas.List.{length-map, get_or-map}
use Rattle.drafts.specs.declared.roster.Owned.{Owned}
use Rattle.drafts.specs.Applied.{teams_of}
use Rattle.drafts.proofs.OwnedLaws.{places-more, places-all}
use Rattle.drafts.proofs.state.places_of.Goals as goal

pub loop-index-init : goal.loop-index-init
loop-index-init c = λ k. ap (λ s. contains s k) c.empty-members.ensures ∙ contains-empty nat_cmp k
    ∙ grind (arith, nat_tests)

pub loop-index-preserved : goal.loop-index-preserved
loop-index-preserved c =
    let tasks = c.args.tasks.now in
    let o : Owned = c.index-tasks-index.result in
    let i = c.loop-index.index in
    let count = length-map tasks (λ (x : Owned). x.team) in
    let inside : i < length (teams_of tasks) = omega (arith, count, c.loop-index-test.true) in
    let here : o.team ≡ get_or (teams_of tasks) i o.team =
    ap (λ (x : Owned). x.team) c.index-tasks-index.is
    ∙ sym (get_or-map (λ (x : Owned). x.team) tasks i o o.team c.loop-index-test.true) in
    λ k. places-more c.args.team (teams_of tasks) i k o.team _ (contains c.loop-index.members k) _
    inside here
    (ap (λ n. n == c.number-in-loop-index.result) c.number.ensures.same
    ∙ ap (λ n. o.team == n) c.number-in-loop-index.ensures.same)
    (c.loop-index.invariant k) (c.noted-members.ensures k)

pub returns : goal.returns
returns c =
    let count = length-map c.args.tasks.now (λ (x : Owned). x.team) in
    λ k. places-all c.args.team (teams_of c.args.tasks.now) k c.loop-index.index _
    (omega (arith, count)) (c.loop-index.invariant k)
