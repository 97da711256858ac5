use Rattle.std.proofs.Common.{subst, sym, arith, length}
use Rattle.task_sheet.proofs.Common.{below, IsOrderOf, IsTaskSet}
use Rattle.ceiling_kernel.specs.Tick.{node_in}
use Rattle.ceiling_kernel.specs.NodeTasks.{KeepsTasks}
use Rattle.ceiling_kernel.proofs.OrderLaws.{order_iff, order_length}
use Rattle.ceiling_kernel.proofs.kernel.Kernel.in_order.Goals as goal

pub tasks_of-requires-clause-within : goal.tasks_of-requires-clause-within
tasks_of-requires-clause-within c = λ k d lt.
    omega (
      arith,
      ((order_iff (length c.args.set.now) c.args.order.now).1 c.requires.order).0 k d
          lt,
      c.requires.few,
    )

pub tasks_of-requires-clause-few : goal.tasks_of-requires-clause-few
tasks_of-requires-clause-few c = omega (
  arith,
  order_length (length c.args.set.now) c.args.order.now
      c.requires.order,
  c.requires.few,
)

pub invariant_of-result : goal.invariant_of-result
invariant_of-result c =
    let order = c.in_ok-order.ensures.items_if_clones_equal (λ y z h. h) in
    record {
      node = record {
        tasks = subst IsTaskSet c.of.ensures c.tasks_of.ensures.set;
        order =
            subst (λ xs. IsOrderOf (below (length c.args.set.now)) xs) (sym order) c.requires.order;
      };
      tasks = subst (λ xs. KeepsTasks (node_in c.args.set.now xs) c.in_ok-tasks.tasks.items)
          (sym order)
          (subst (λ U. KeepsTasks (node_in U c.args.order.now) c.in_ok-tasks.tasks.items)
          c.of.ensures c.in_ok-tasks.ensures.tasks);
    }
