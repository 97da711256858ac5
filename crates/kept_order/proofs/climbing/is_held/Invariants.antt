use Rattle.std.proofs.Common.{◌≡◌, drop}
use Rattle.task_sheet.specs.Indexes.{indexes_of}
use Rattle.kept_order.specs.Keeping.{is_held}
use Rattle.kept_order.proofs.climbing.is_held.Given as goal

abbrev pub invariant-loop-place : goal.invariant-loop-place
invariant-loop-place l = is_held l.kept (indexes_of l.others) l.task
    ≡ is_held (drop l.place l.kept) (indexes_of l.others) l.task
