use Rattle.task_sheet.specs.Indexes.{indexes_of}
use Rattle.response_time.proofs.SlowedLaws.{PassesAt-own}
use Rattle.response_time.proofs.slowed.passes_at.Goals as goal

pub returns-then-factor-eq1000 : goal.returns-then-factor-eq1000
returns-then-factor-eq1000 c = rw c.if-factor-eq1000.true (
    let own = PassesAt-own c.args.set.now c.args.task (indexes_of c.args.above) in
    (λ so. own.0 (c.passes.ensures.0 so), λ at. c.passes.ensures.1 (own.1 at))
    )
