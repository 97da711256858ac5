use Rattle.std.proofs.Common.{ltb-false, sym}
use Rattle.loads.proofs.ShareLaws.{least_is}
use Rattle.loads.proofs.shares.rounded_up.Goals as goal

pub returns : goal.returns
returns c = least_is _ _ _ (c.requires.some) (ltb-false _ _ (sym c.loop-number-test.ensures)) (c.loop-number.invariant.least)
