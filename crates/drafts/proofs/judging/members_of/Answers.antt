use Rattle.std.proofs.Common.{◌∙◌, ◌<◌, length, take, ap, sym, arith}
use Rattle.std.proofs.lemmas.List.{length-map, get_or-map, take_all}
use Rattle.std.specs.FinSet as set
use Rattle.task_sheet.specs.Indexes.{among, indexes_of}
use Rattle.task_sheet.specs.Verdicts.{FailureData, tasks_of}
use Rattle.task_sheet.proofs.MembersIndexes.{indexes_of-empty}
use Rattle.assignment.proofs.MemberLaws.{members_step}
use Rattle.drafts.proofs.judging.members_of.Goals as goal

pub loop-failure-init : goal.loop-failure-init
loop-failure-init c = ap indexes_of c.empty-members.ensures ∙ indexes_of-empty

pub loop-failure-preserved : goal.loop-failure-preserved
loop-failure-preserved c =
    let fails = c.args.fails.now in
    let k = c.loop-failure.failure-index in
    let count = length-map fails (λ (f : FailureData). f.task) in
    let inside : k < length (tasks_of fails) = omega (arith, count, c.loop-failure-test.true) in
    let f = c.failure-item.result in
    let here = ap (λ (x : FailureData). x.task) c.failure.view_is
    ∙ ap (λ (x : FailureData). x.task) c.failure-item.is
    ∙ sym (get_or-map (λ (x : FailureData). x.task) fails k f 0 c.loop-failure-test.true) in
    members_step c.loop-failure.members c.with-members.result (tasks_of fails) k inside
    c.loop-failure.invariant
    (c.with-members.ensures ∙ ap (λ n. set.insert c.loop-failure.members n) here)
