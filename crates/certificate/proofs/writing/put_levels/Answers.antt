use Rattle.std.proofs.Common.{rules}
use Rattle.certificate.proofs.Sent.{level_sent}
use Rattle.certificate.proofs.writing.put_levels.Goals as goal

pub loop-i-preserved : goal.loop-i-preserved
loop-i-preserved g c =
    level_sent c.args.levels.now c.loop-i.i c.index-levels-i.result c.loop-i-test.true
    c.index-levels-i.is c.loop-i.invariant c.in_ok-put_level.ensures (search rules)
