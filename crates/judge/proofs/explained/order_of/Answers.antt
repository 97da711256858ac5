use Rattle.judge.specs.declared.judging.JudgedTask.{JudgedTask}
use Rattle.judge.proofs.CopyLaws.{made_next}
use Rattle.judge.proofs.explained.order_of.Goals as goal

pub loop-entry-preserved : goal.loop-entry-preserved
loop-entry-preserved c = made_next (λ (j : JudgedTask). j.task) c.args.judged.now
    c.loop-entry.order.items c.push.new.self.items c.loop-entry.entry-index _
    c.loop-entry-test.true c.in_ok-push.ensures.items c.loop-entry.invariant
