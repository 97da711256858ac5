use Rattle.std.proofs.Common.{sym, ◌∙◌}
use Rattle.task_sheet.specs.Indexes.{indexes_of}
use Rattle.assignment.proofs.PlacingLaws.{stands_too}
use Rattle.assignment.proofs.placing.response_below.Goals as goal

pub returns-clause-stands : goal.returns-clause-stands
returns-clause-stands c =
    stands_too c.args.set.now c.args.task (indexes_of c.args.above) c.response_in_time.result
    (sym c.must_outrank_any.ensures ∙ c.if-must_outrank_any.false) c.response_in_time.ensures.passes
