use Rattle.std.proofs.Common.{◌<◌, refl, sym, arith, length, None, slice_index_or}
use Rattle.ceiling_kernel.specs.Lists.{listed}
use Rattle.ceiling_kernel.proofs.QueueLaws.{head_in_slots, pick_head, pick_none}
use Rattle.ceiling_kernel.proofs.lists.pick.Goals as goal

pub returns-in_default : goal.returns-in_default
returns-in_default c = pick_none c.args.slots.now (listed c.args.lists.now) c.requires.queues
    (sym c.in_default.ensures)

inside : (c : goal.In-Some) → c.in-Some.task < length c.args.slots.now
inside c = head_in_slots c.args.slots.now (listed c.args.lists.now) c.requires.queues c.in-Some.task
    (sym c.in-Some.ensures)

pub offset_bounds-slots-task : goal.offset_bounds-slots-task
offset_bounds-slots-task c = omega (arith, inside c, c.requires.few)

pub bounds-slots-task : goal.bounds-slots-task
bounds-slots-task c = inside c

pub returns : goal.returns
returns c = pick_head c.args.slots.now (listed c.args.lists.now) c.requires.queues c.in-Some.task
    (slice_index_or c.args.slots.now c.in-Some.task None) (sym c.in-Some.ensures) refl
