use Rattle.judge.specs.declared.order.Numbered.{Numbered}
use Rattle.judge.proofs.CopyLaws.{made_next}
use Rattle.judge.proofs.order.tasks_of.Goals as goal

pub loop-entry-preserved : goal.loop-entry-preserved
loop-entry-preserved c = made_next (λ (n : Numbered). n.task) c.args.numbered.now
    c.loop-entry.order.items c.push.new.self.items c.loop-entry.entry-index _
    c.loop-entry-test.true c.in_ok-push.ensures.items c.loop-entry.invariant
