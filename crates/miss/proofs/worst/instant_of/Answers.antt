use Rattle.std.proofs.Common.{◌≡◌, ◌∙◌, ◌+◌, max, get_or, drop, ap, arith}
use Rattle.std.proofs.lemmas.List.{drop_more}
use Rattle.task_sheet.proofs.Common.{Task, no_task, task_at, greatest_of}
use Rattle.task_sheet.proofs.TaskLaws.{task_read}
use Rattle.ceiling_kernel.specs.Waits.{lateness_of}
use Rattle.miss.proofs.worst.instant_of.Goals as goal

-- one member more
pub loop-member-preserved : goal.loop-member-preserved
loop-member-preserved c =
    let U = c.args.set.now in
    let xs = c.args.above.now in
    let k = c.loop-member.member-index in
    let known = c.requires.above k 0 c.loop-member-test.true in
    let v = c.sheets-sheets.ensures.kept.valid (get_or xs k 0) no_task known in
    let own : c.jitter-in-loop-member.result ≡ lateness_of (task_at U (get_or xs k 0)) =
    c.jitter-in-loop-member.ensures ∙ ap (λ (t : Task). t.jitter) (task_read U
    c.sheets-sheets.result.now (get_or xs k 0) c.index-sheets-member.result
    c.sheets-sheets.ensures.same known c.index-sheets-member.is) in
    let more : greatest_of (λ i. lateness_of (task_at U i)) (drop k xs)
    ≡ max (lateness_of (task_at U (get_or xs k 0)))
    (greatest_of (λ i. lateness_of (task_at U i)) (drop (k + 1) xs)) =
    ap (greatest_of (λ i. lateness_of (task_at U i))) (drop_more xs k 0 c.loop-member-test.true)
    in (
      omega (arith, c.loop-member.invariant.0, own, more, c.max-instant-in-loop-member.ensures),
      omega (
        arith,
        c.loop-member.invariant.1,
        own,
        c.max-instant-in-loop-member.ensures,
        v.jitter,
        v.deadline_to,
        v.period_to,
      ),
    )
