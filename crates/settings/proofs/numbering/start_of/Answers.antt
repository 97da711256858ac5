use Rattle.std.proofs.Common.{arith}
use Rattle.settings.proofs.NumberingLaws.{anew_below-le}
use Rattle.settings.proofs.numbering.start_of.Goals as goal

pub overflow_add-anew : goal.overflow_add-anew
overflow_add-anew c =
    omega (arith, c.anew_below-anew.ensures, anew_below-le c.args.stay.now, c.requires.few)

pub step_of-requires-clause-count : goal.step_of-requires-clause-count
step_of-requires-clause-count c =
    omega (arith, c.anew_below-anew.ensures, anew_below-le c.args.stay.now, c.requires.few)
