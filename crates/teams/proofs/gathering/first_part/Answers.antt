use Rattle.std.proofs.Common.{arith}
use Rattle.teams.specs.Gathering.{IsHead}
use Rattle.teams.proofs.TeamLaws.{none_by, uncut, head_count}
use Rattle.teams.proofs.gathering.first_part.Goals as goal

pub returns-in_err-line-clause-part : goal.returns-in_err-line-clause-part
returns-in_err-line-clause-part c = rw c.from_residual.ensures
    (λ team. uncut (λ l n. IsHead l team n) c.args.text.now c.in_err-line.ensures.parts)

pub returns-in_err-team-clause-part : goal.returns-in_err-team-clause-part
returns-in_err-team-clause-part c = rw c.from_residual-in_err-team.ensures
    (λ team. none_by (λ l n. IsHead l team n) c.args.text.now c.in_ok-line.line.now
    c.in_ok-line.rest.now c.in_ok-line.ensures.parts
    (λ count head _. c.in_err-team.ensures team count head))

pub returns-then-count-rest-clause-part : goal.returns-then-count-rest-clause-part
returns-then-count-rest-clause-part c = λ team.
    none_by (λ l n. IsHead l team n) c.args.text.now c.in_ok-line.line.now c.in_ok-line.rest.now
    c.in_ok-line.ensures.parts (λ count head le. omega (
      arith,
      head_count c.in_ok-line.line.now c.in_ok-team.team team c.in_ok-team.count count
          c.in_ok-team.ensures head,
    ))
