use Rattle.std.proofs.Common.{◌∙◌, ap, arith}
use Rattle.teams.specs.Budgets.{shares_by, thousandths_of}
use Rattle.teams.proofs.BudgetLaws.{few_shares, load_past, load_within}
use Rattle.teams.proofs.keeping.load_fault.Goals as goal

pub load_in-requires-clause-few : goal.load_in-requires-clause-few
load_in-requires-clause-few c = rw (c.deref.ensures.value, c.in_ok-shares.ensures.are)
    (omega (arith, few_shares c.args.sets.now c.args.team, c.requires.few, c.requires.bounded))

pub returns-then-number-limit : goal.returns-then-number-limit
returns-then-number-limit c =
    let valid = rw (c.in_ok-shares.ensures.are) at c.in_ok-shares.ensures.valid in
    let is = c.in_ok-number.ensures
    ∙ ap thousandths_of (c.deref.ensures.value ∙ c.in_ok-shares.ensures.are) in
    rw (c.in-Some.is) (load_within c.args.team (shares_by c.args.sets.now c.args.team)
    c.in-Some.limit c.in_ok-number.number valid is c.if-number-limit.true)

pub returns : goal.returns
returns c =
    let valid = rw (c.in_ok-shares.ensures.are) at c.in_ok-shares.ensures.valid in
    let is = c.in_ok-number.ensures
    ∙ ap thousandths_of (c.deref.ensures.value ∙ c.in_ok-shares.ensures.are) in
    rw (c.in-Some.is) (load_past c.args.team (shares_by c.args.sets.now c.args.team)
    c.in-Some.limit c.in_ok-number.number valid is c.if-number-limit.false)
