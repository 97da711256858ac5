use Rattle.std.proofs.Common.{arith}
use Rattle.observed.proofs.ranks.number_with.Goals as goal

pub has-requires : goal.has-requires
has-requires c = omega (arith, c.requires, c.sheets.ensures.kept.few)
