use Rattle.explain.proofs.AccountLaws.{best-in_time}
use Rattle.explain.proofs.explanation.explain.Goals as goal

pub response_accounts-requires : goal.response_accounts-requires
response_accounts-requires c =
    let U = c.args.set.now in
    let best = rw c.in-Best.is at c.requires in
    rw c.deref.ensures.value
    (best-in_time U c.in-Best.places.items c.sheets-sheets.ensures.kept best)

pub returns-in_ok-needs-in-Stuck : goal.returns-in_ok-needs-in-Stuck
returns-in_ok-needs-in-Stuck c =
    rw c.in-Stuck.is
    (c.least_conflict-left.ensures.way, c.in_ok-needs-in-Stuck.ensures)
