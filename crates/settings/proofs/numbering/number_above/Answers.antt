use Rattle.std.proofs.Common.{arith}
use Rattle.settings.proofs.NumberingLaws.{anew_below-le}
use Rattle.settings.proofs.numbering.number_above.Goals as goal

pub overflow_add-anew_below : goal.overflow_add-anew_below
overflow_add-anew_below c =
    omega (arith, c.anew_below.ensures, anew_below-le c.args.numbers.now, c.requires.few)

pub step_of-requires-clause-count : goal.step_of-requires-clause-count
step_of-requires-clause-count c =
    omega (arith, c.anew_below.ensures, anew_below-le c.args.numbers.now, c.requires.few)
