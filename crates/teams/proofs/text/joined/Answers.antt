use Rattle.std.proofs.Common.{◌≡◌, ◌∙◌, ◌-◌, ◌∷◌, suc, length, Some, Ok, sym, rules, arith}
use Rattle.std.proofs.lemmas.List.{take_all}
use Rattle.teams.specs.Budgets.{budgets_fault}
use Rattle.teams.specs.ReadsTeams.{UnitesAll}
use Rattle.teams.proofs.TeamLaws.{refused_budget}
use Rattle.teams.proofs.text.joined.Goals as goal

pub returns-in-Some : goal.returns-in-Some
returns-in-Some c =
    let united : UnitesAll (c.args.own ∷ c.args.teams.items) (Ok c.in_ok-document.document) =
    search rules in
    let items : c.deref-2.result.now ≡ c.args.own ∷ c.args.teams.items = search rules in
    let all = take_all (suc (length c.args.teams.items) - 1) c.args.teams.items (omega arith) in
    let past : budgets_fault c.args.teams.items c.args.budgets.now ≡ Some c.in-Some.fault =
    rw all at (rw items at (sym c.in_ok-fault.ensures ∙ c.in-Some.is)) in
    refused_budget c.args.own c.args.budgets.now c.args.teams.items c.in-Some.fault
    (c.in_ok-document.document, united) past
