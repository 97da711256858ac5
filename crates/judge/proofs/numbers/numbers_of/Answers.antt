use Rattle.std.proofs.Common.{◌∙◌, ◌++◌, ◌∷◌, [], ℕ, ap}
use Rattle.judge.specs.SettingFaults.{thread_number}
use Rattle.judge.specs.SettingLines.{threads_of}
use Rattle.judge.proofs.CopyLaws.{made_next}
use Rattle.judge.proofs.numbers.numbers_of.Goals as goal

pub loop-task-preserved : goal.loop-task-preserved
loop-task-preserved c = made_next (thread_number c.args.set.now (threads_of c.args.rows.now))
    c.args.order.now c.loop-task.numbers.items c.push.new.self.items c.loop-task.task-index _
    c.loop-task-test.true (c.in_ok-push.ensures.items
    ∙ ap (λ (n : ℕ). c.loop-task.numbers.items ++ n ∷ []) c.number_at.ensures)
    c.loop-task.invariant
