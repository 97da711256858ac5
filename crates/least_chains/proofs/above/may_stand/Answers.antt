use Rattle.std.proofs.Common.{false, refl}
use Rattle.std.proofs.lemmas.Bool.{both_ways}
use Rattle.task_sheet.specs.Indexes.{indexes_of}
use Rattle.task_sheet.proofs.PassingLaws.{must_outrank_any-at}
use Rattle.least_chains.proofs.above.may_stand.Goals as goal

-- a task that must stand above one of them may not
pub returns-in-Some : goal.returns-in-Some
returns-in-Some c =
    let over = c.in-Some.ensures.some in (
      λ so. absurd (both_ways false refl so),
      λ stands. absurd (both_ways _ stands.1 (must_outrank_any-at c.args.set.now c.args.task
          (indexes_of c.args.above) c.in-Some.field-0 over.in_set over.above over.named)),
    )
