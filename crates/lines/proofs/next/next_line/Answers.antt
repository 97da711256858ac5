use Rattle.lines.proofs.Parts.{line_cut}
use Rattle.lines.proofs.next.next_line.Goals as goal

pub returns-in-Some-clause-line : goal.returns-in-Some-clause-line
returns-in-Some-clause-line c = (
  line_cut c.args.at.rest.now c.in-Some.line.now
      c.in-Some.after.rest.now c.in-Some.ensures.line.0,
  c.in-Some.ensures.line.1,
)
