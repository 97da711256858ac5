use Rattle.std.proofs.Common.{◌≡◌, ◌∙◌, length, max, add-one, ap, arith}
use Rattle.task_sheet.proofs.Common.{Task, indexes_of, with_index}
use Rattle.task_sheet.proofs.Below.{ord_max-is}
use Rattle.task_sheet.proofs.MembersIndexes.{indexes_of-insert}
use Rattle.task_sheet.proofs.TaskLaws.{task_read}
use Rattle.judge.specs.Ceilings.{blocking_at}
use Rattle.judge.specs.SettingFaults.{setting_number, thread_number}
use Rattle.judge.proofs.raised.blocking_at.Goals as goal

pub loop-index-preserved : goal.loop-index-preserved
loop-index-preserved c =
    let next : c.max-longest.result ≡ max c.loop-index.longest c.longest_below.result =
    c.max-longest.ensures ∙ ord_max-is _ _ in
    rw add-one (omega (arith, next, c.longest_below.ensures, c.loop-index.invariant))

pub returns : goal.returns
unfolding blocking_at
returns c =
    let U = c.args.set.now in
    let threads = c.args.settings.now.threads.items in
    let count : c.loop-index.index ≡ length U = omega (
      arith,
      c.loop-index-test.false,
      c.loop-index.auto.index-end,
      c.len-index-end.ensures.count,
    ) in
    let inside : indexes_of c.with-others.result ≡ with_index (indexes_of c.args.above) c.args.task =
    ap indexes_of c.with-others.ensures ∙ indexes_of-insert c.args.above c.args.task in
    let sheet = task_read U c.sheets.result.now c.args.task c.index-sheets-task.result
    c.sheets.ensures.same c.requires c.index-sheets-task.is in
    let number : c.number_of-number.result ≡ thread_number U threads c.args.task =
    c.number_of-number.ensures ∙ ap (λ ts. setting_number ts c.name.result) c.deref.ensures.value
    ∙ ap (λ name. setting_number threads name) (c.name.ensures.same
    ∙ ap (λ (t : Task). t.name) sheet) in
    rw (count, inside, number) at c.loop-index.invariant
