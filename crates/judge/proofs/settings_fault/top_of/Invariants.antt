use Rattle.std.proofs.Common.{◌≡◌, cond}
use Rattle.task_sheet.proofs.Common.{task_at, greatest_below, uses}
use Rattle.judge.specs.SettingFaults.{thread_number}
use Rattle.judge.proofs.settings_fault.top_of.Given as goal

abbrev pub invariant-loop-task : goal.invariant-loop-task
invariant-loop-task l =
    l.top ≡ greatest_below l.task
    (λ k. cond (uses (task_at l.set k) l.fn.lock) (thread_number l.set l.fn.threads k) 0)
