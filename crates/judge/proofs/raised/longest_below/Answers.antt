use Rattle.std.proofs.Common.{arith}
use Rattle.judge.proofs.raised.longest_below.Goals as goal

pub has-requires : goal.has-requires
has-requires c = omega (arith, c.requires, c.sheets.ensures.kept.few)
