use Rattle.trace_text.specs.TraceLines.{rows_at}
use Rattle.observed.specs.Promises.{levels_from}
use Rattle.two_input_commands.proofs.Observations.{best, unseen_in_best}
use Rattle.two_input_commands.proofs.observe_lines.observe_best.Goals as goal

pub returns-in-Err-clause-answer : goal.returns-in-Err-clause-answer
returns-in-Err-clause-answer c = unseen_in_best c.args.tasks.now (rows_at c.args.at.line c.args.at.rest.now)
    c.in-Err.fault c.in-Err.ensures

pub returns-in-Seen-clause-answer : goal.returns-in-Seen-clause-answer
returns-in-Seen-clause-answer c =
    let is = rw c.in-Seen.is at c.in-Ok.ensures in (
      levels_from 1 is.places,
      is.places,
      is.lines,
      best c.args.tasks.now (rows_at c.args.at.line c.args.at.rest.now) is.places is.lines is.inputs,
      is.shown,
    )
