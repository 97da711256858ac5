use Rattle.std.proofs.Common.{◌≡◌, rules, sym, subst}
use Rattle.drafts.specs.declared.roster.Owned.{Owned}
use Rattle.drafts.specs.Applied.{bare, with_task}
use Rattle.drafts.specs.Rosters.{IsRoster}
use Rattle.drafts.proofs.RosterLaws.{roster_with, bare_valid}
use Rattle.drafts.proofs.applying.put.Goals as goal

pub returns-clause-roster : goal.returns-clause-roster
returns-clause-roster c =
    let tasks = c.args.tasks.now.items in
    let o : Owned = record { sheet = bare c.args.sheet.now; team = c.args.team } in
    let made : c.place.new.tasks.items ≡ with_task o.sheet.name o tasks = search rules in
    subst IsRoster (sym made)
    (roster_with o tasks (bare_valid c.args.sheet.now c.name-name.ensures.valid) c.requires)
