use Rattle.std.proofs.Common.{◌≡◌, length}
use Rattle.ceiling_kernel.specs.Tick.{node_in}
use Rattle.ceiling_kernel.specs.NodeTasks.{AreTasksOf}
use Rattle.ceiling_kernel.proofs.build.tasks_of.Given as goal

abbrev pub invariant-loop-index : goal.invariant-loop-index
invariant-loop-index l = record {
  count : length l.kept.items ≡ l.index;
  each : AreTasksOf (node_in l.set l.order) l.kept.items;
}
