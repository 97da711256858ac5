use Rattle.std.proofs.Common.{[], refl}
use Rattle.task_sheet.specs.Indexes.{indexes_of}
use Rattle.task_sheet.proofs.MembersIndexes.{indexes_of-remove, len-remove_member}
use Rattle.worst_lines.proofs.BelowLaws.{below_part, below_push, below_end}
use Rattle.worst_lines.proofs.below.order_below.Goals as goal

pub loop-next-init : goal.loop-next-init
loop-next-init c =
    rw (c.without-left.ensures, c.in_ok-push.ensures.items, c.in_ok-order.ensures) (record {
      above = [];
      each = tt;
      rest = indexes_of-remove c.args.conflict c.args.task;
      placed = refl;
    })

pub standing-requires : goal.standing-requires
standing-requires c =
    below_part c.args.set.now (indexes_of c.args.conflict) c.args.task
    (indexes_of c.loop-next.left) c.loop-next.order.items c.requires.conflict.obstruction.within
    c.loop-next.invariant

pub loop-next-smaller : goal.loop-next-smaller
loop-next-smaller c = rw c.without-left-in-Some.ensures
    (len-remove_member c.loop-next.left c.in-Some.next c.in-Some.ensures.member)

pub loop-next-preserved : goal.loop-next-preserved
loop-next-preserved c = rw (c.without-left-in-Some.ensures, c.in_ok-push-2.ensures.items)
    (below_push c.args.set.now (indexes_of c.args.conflict) c.args.task c.loop-next.left
    c.in-Some.next c.loop-next.order.items c.loop-next.invariant c.in-Some.ensures.member
    c.in-Some.ensures.stands)

pub returns : goal.returns
returns c =
    below_end c.args.set.now (indexes_of c.args.conflict) c.args.task (indexes_of c.loop-next.left)
    c.loop-next.order.items c.requires.conflict c.requires.member c.loop-next.invariant
    c.in_default.ensures.none
