use Rattle.std.proofs.Common.{◌≡◌, map}
use Rattle.std.specs.List.{All}
use Rattle.task_sheet.specs.Indexes.{listed_below}
use Rattle.judge.specs.KeptOrder.{with_thread_in}
use Rattle.judge.specs.SettingFaults.{thread_number}
use Rattle.judge.proofs.order.numbered_of.Given as goal

abbrev pub invariant-loop-task : goal.invariant-loop-task
invariant-loop-task l = record {
  tasks : map (λ n. n.task) l.numbered.items ≡ listed_below l.task (with_thread_in l.set l.threads);
  numbers : All (λ n. n.number ≡ thread_number l.set l.threads n.task) l.numbered.items;
}
