use Rattle.std.proofs.Common.{subst}
use Rattle.task_sheet.specs.TaskSet.{IsTaskSet}
use Rattle.assignment.specs.Questions.{QuestionData}
use Rattle.book_lock.proofs.Testing.{still_good, untested_set, none_shut}
use Rattle.book_lock.proofs.asking.test_set.Goals as goal

pub returns-in-Err-clause-fault : goal.returns-in-Err-clause-fault
returns-in-Err-clause-fault g c =
    untested_set (λ (q : QuestionData). g.G.Gate.may_shut c.args.gate.now q) c.args.set.value
    c.threads_worth.result c.in-Err.fault c.cause_of.result (still_good c.threads_worth.result
    c.args.workers c.requires c.threads_worth.ensures.from c.threads_worth.ensures.most)
    (rw c.in-Ok.ensures.cases at c.in-Err.ensures.fault)
    (rw c.deref-in-Err.ensures at c.cause_of.ensures)

pub returns-in-Ok-assay-clause-asked : goal.returns-in-Ok-assay-clause-asked
returns-in-Ok-assay-clause-asked g c =
    none_shut (λ (q : QuestionData). g.G.Gate.always_shuts c.args.gate.now q) c.args.set.value
    c.in-Ok.own.value c.in-Ok-assay.placing c.in-Ok.ensures.cases
    (subst IsTaskSet c.deref.ensures c.sheets.ensures.kept) c.in-Ok-assay.ensures.placing
    c.in-Ok-assay.ensures.asked
