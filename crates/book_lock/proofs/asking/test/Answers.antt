use Rattle.drafts.specs.Edits.{on_base}
use Rattle.book_lock.proofs.Testing.{set_told}
use Rattle.book_lock.proofs.asking.test.Goals as goal

pub returns-in-Ok-Tasks-clause-asked : goal.returns-in-Ok-Tasks-clause-asked
returns-in-Ok-Tasks-clause-asked g c =
    let told = set_told (on_base c.args.draft.now) c.in-Ok-Tasks.set
    (rw c.in-Ok-Tasks.field-0-is at c.in-Ok-Tasks.ensures) in
    rw (told.1, ← told.2) c.test_set.ensures.asked

pub returns-in-Ok-Tasks-clause-fault : goal.returns-in-Ok-Tasks-clause-fault
returns-in-Ok-Tasks-clause-fault g c =
    let told = set_told (on_base c.args.draft.now) c.in-Ok-Tasks.set
    (rw c.in-Ok-Tasks.field-0-is at c.in-Ok-Tasks.ensures) in
    rw (told.1, ← told.2) c.test_set.ensures.fault
