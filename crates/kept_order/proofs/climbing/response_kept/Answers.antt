use Rattle.std.proofs.Common.{◌∙◌, sym}
use Rattle.std.proofs.lemmas.Option.{IfSome_then}
use Rattle.task_sheet.specs.Indexes.{indexes_of}
use Rattle.assignment.proofs.PlacingLaws.{stands_too}
use Rattle.kept_order.proofs.climbing.response_kept.Goals as goal

pub returns-in-None-clause-stands : goal.returns-in-None-clause-stands
returns-in-None-clause-stands c =
    IfSome_then c.response_in_time.result (stands_too c.args.set.now c.args.task
    (indexes_of c.args.above) c.response_in_time.result c.in-None.ensures.none
    c.response_in_time.ensures.passes)
    (λ _ stands. (stands, sym c.is_held.ensures ∙ c.if-is_held.false))
