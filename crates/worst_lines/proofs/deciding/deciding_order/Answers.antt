use Rattle.std.proofs.Common.{◌∙◌, ap, List, length, arith}
use Rattle.std.proofs.lemmas.Bool.{ltb-true}
use Rattle.task_sheet.proofs.Common.{Task, below, indexes_of}
use Rattle.task_sheet.proofs.MembersIndexes.{indexes_of-all_below, len-remove_member}
use Rattle.worst_lines.proofs.DecidingLaws.{sofar_part, sofar_push, sofar_end}
use Rattle.worst_lines.proofs.deciding.deciding_order.Goals as goal

pub loop-task-init : goal.loop-task-init
loop-task-init c = rw (c.all-left.ensures, c.in_ok-order.ensures.items) (record {
  next = tt;
  rest = indexes_of-all_below _ ∙ ap (λ (U : List Task). below (length U)) c.sheets.ensures.same;
})

pub next-requires : goal.next-requires
next-requires c = sofar_part c.args.set.now (indexes_of c.loop-task.left) c.loop-task.order.items
    c.loop-task.invariant

pub without-left-requires : goal.without-left-requires
without-left-requires c =
    let inside = sofar_part c.args.set.now (indexes_of c.loop-task.left) c.loop-task.order.items
    c.loop-task.invariant c.in-Some.task c.in-Some.ensures.some.member in
    omega (
      arith,
      ltb-true c.in-Some.task (length c.args.set.now) inside,
      c.sheets.ensures.kept.few,
    )

pub loop-task-smaller : goal.loop-task-smaller
loop-task-smaller c = rw c.without-left.ensures
    (len-remove_member c.loop-task.left c.in-Some.task c.in-Some.ensures.some.member)

pub loop-task-preserved : goal.loop-task-preserved
loop-task-preserved c = rw (c.without-left.ensures, c.in_ok-push.ensures.items)
    (sofar_push c.args.set.now c.loop-task.left c.loop-task.order.items c.in-Some.task
    c.loop-task.invariant c.in-Some.ensures.some)

pub returns : goal.returns
returns c = sofar_end c.args.set.now (indexes_of c.loop-task.left) c.loop-task.order.items
    c.loop-task.invariant c.in_default.ensures.none
