use Rattle.std.proofs.Common.{arith}
use Rattle.teams.specs.Gathering.{IsNodeHead}
use Rattle.teams.proofs.TeamLaws.{none_by, uncut, node_count}
use Rattle.teams.proofs.gathering.node_part.Goals as goal

pub returns-in_err-line : goal.returns-in_err-line
returns-in_err-line c =
    rw c.from_residual.ensures (uncut IsNodeHead c.args.text.now c.in_err-line.ensures.parts)

pub returns-in_err-count : goal.returns-in_err-count
returns-in_err-count c = rw c.from_residual-in_err-count.ensures
    (none_by IsNodeHead c.args.text.now c.in_ok-line.line.now c.in_ok-line.rest.now
    c.in_ok-line.ensures.parts (λ count head _. c.in_err-count.ensures count head))

pub returns-then-count-rest : goal.returns-then-count-rest
returns-then-count-rest c =
    none_by IsNodeHead c.args.text.now c.in_ok-line.line.now c.in_ok-line.rest.now
    c.in_ok-line.ensures.parts (λ count head le. omega (
      arith,
      node_count c.in_ok-line.line.now c.in_ok-count.count count c.in_ok-count.ensures head,
    ))
