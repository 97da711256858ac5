use Rattle.std.proofs.Common.{◌≡◌, ◌++◌, map, drop}
use Rattle.judge.specs.SettingFaults.{thread_number}
use Rattle.judge.specs.SettingLines.{threads_of}
use Rattle.judge.proofs.numbers.numbers_of.Given as goal

abbrev pub invariant-loop-task : goal.invariant-loop-task
invariant-loop-task l =
    l.numbers.items ++ map (thread_number l.set (threads_of l.fn.rows)) (drop l.task-index l.order)
    ≡ map (thread_number l.set (threads_of l.fn.rows)) l.fn.order
