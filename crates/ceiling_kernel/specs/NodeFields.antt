-- How a `Kernel` keeps its node.
use Rattle.ceiling_kernel.specs.declared.kernel.Kernel.TheInside.{Inside}
use Rattle.ceiling_kernel.specs.Tick.{Node, node_in}
use Rattle.ceiling_kernel.specs.Waits.{IsNode}
use Rattle.ceiling_kernel.specs.NodeTasks.{KeepsTasks}

-- what callers see of a kernel
abbrev pub node_of : Inside → Node
node_of k = node_in k.set.now k.order.items

-- a node, and what is kept of its tasks is right
pub record IsNodeKept (k : Inside) : Type 0 where
  pub node : IsNode (node_of k)
  pub tasks : KeepsTasks (node_of k) k.tasks.items
