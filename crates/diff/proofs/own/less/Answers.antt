use Rattle.std.proofs.Common.{arith}
use Rattle.diff.proofs.own.less.Goals as goal

pub returns-in-Some : goal.returns-in-Some
returns-in-Some c = λ n is. let same = rw c.in-Some.is at is in omega (arith, same)

pub returns-in-None : goal.returns-in-None
returns-in-None c = λ n is.
    let past = rw c.in-None.is at is in
    omega (arith, past, c.ranges.number.fits)
