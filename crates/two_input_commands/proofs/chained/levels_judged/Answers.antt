use Rattle.judge.proofs.CopyLaws.{made_next}
use Rattle.two_input_commands.specs.Chained.{level_judged}
use Rattle.two_input_commands.proofs.chained.levels_judged.Goals as goal

pub loop-entry-preserved : goal.loop-entry-preserved
loop-entry-preserved c = made_next level_judged c.args.judged.now
    c.loop-entry.levels.items c.push.new.self.items c.loop-entry.entry-index _
    c.loop-entry-test.true (rw c.level_judged.ensures at c.in_ok-push.ensures.items) c.loop-entry.invariant
