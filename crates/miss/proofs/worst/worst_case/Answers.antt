use Rattle.std.proofs.Common.{◌∙◌, ◌+◌, ◌≤◌, refl, ap, subst, arith}
use Rattle.task_sheet.proofs.Common.{Task, indexes_of, limit_of}
use Rattle.task_sheet.proofs.TaskLaws.{task_read}
use Rattle.ceiling_kernel.proofs.Common.{IsRefusal}
use Rattle.release_list.specs.Streams.{count_refusal}
use Rattle.miss.proofs.IndexLaws.{blocker_in, limit_small}
use Rattle.miss.proofs.StreamLaws.{all_streams, too_long_case}
use Rattle.miss.proofs.worst.worst_case.Goals as goal

pub lead_of-lead-requires : goal.lead_of-lead-requires
lead_of-lead-requires c = blocker_in c.args.set.now c.args.task _ c.first_blocker-blocker.result
    c.first_blocker-blocker.ensures

pub streams_of-requires-clause-blocker : goal.streams_of-requires-clause-blocker
streams_of-requires-clause-blocker c = blocker_in c.args.set.now c.args.task _
    c.first_blocker-blocker.result c.first_blocker-blocker.ensures

pub list_of-requires-clause-streams : goal.list_of-requires-clause-streams
list_of-requires-clause-streams c =
    let short : limit_of c.index-sheets-task.result ≤ 10000000 =
    limit_small c.args.set.now c.sheets-sheets.ensures.kept c.sheets-sheets.result.now c.args.task
    c.index-sheets-task.result c.sheets-sheets.ensures.same c.requires.task
    c.index-sheets-task.is in
    all_streams c.args.set.now c.sheets-sheets.ensures.kept c.args.task c.args.above.now
    c.first_blocker-blocker.result c.instant_of-instant.result
    (c.instant_of-instant.result + c.limit.result) c.requires.task c.requires.above
    (blocker_in c.args.set.now c.args.task _ c.first_blocker-blocker.result
    c.first_blocker-blocker.ensures)
    (omega (arith, short, c.limit.ensures.same, c.instant_of-instant.ensures.small))
    c.deref.result.now (c.deref.ensures.value ∙ c.in_ok-streams.ensures)

pub returns-in-Err-TooMany-clause-none : goal.returns-in-Err-TooMany-clause-none
returns-in-Err-TooMany-clause-none c =
    let sheet = task_read c.args.set.now c.sheets-sheets.result.now c.args.task
    c.index-sheets-task.result
    c.sheets-sheets.ensures.same c.requires.task c.index-sheets-task.is in
    too_long_case c.args.set.now c.args.task c.args.above.now (indexes_of c.members_of.result)
    c.first_blocker-blocker.result c.deref.result.now c.instant_of-instant.result
    c.lead_of-lead.result c.limit.result (c.instant_of-instant.result + c.limit.result)
    c.members_of.ensures c.first_blocker-blocker.ensures c.lead_of-lead.ensures.is
    c.instant_of-instant.ensures.is refl (c.limit.ensures.same
    ∙ ap (λ (t : Task). limit_of t) sheet) (c.deref.ensures.value ∙ c.in_ok-streams.ensures)
    (subst (λ e. IsRefusal e
    (count_refusal c.deref.result.now (c.instant_of-instant.result + c.limit.result)))
    c.in-Err-TooMany.field-0-is c.in-Err-TooMany.ensures)
