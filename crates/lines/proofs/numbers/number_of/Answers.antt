use Rattle.std.proofs.Common.{rules, arith}
use Rattle.lines.proofs.Digits.{number_step}
use Rattle.lines.proofs.numbers.number_of.Goals as goal

pub overflow_mul-number : goal.overflow_mul-number
overflow_mul-number c =
    let s = number_step c.args.text.now c.loop-b.b-index c.loop-b.number (search rules)
    c.loop-b-test.true c.loop-b.invariant in
    omega (arith, s.2)

pub overflow_add-number : goal.overflow_add-number
overflow_add-number c =
    let s = number_step c.args.text.now c.loop-b.b-index c.loop-b.number (search rules)
    c.loop-b-test.true c.loop-b.invariant in
    omega (arith, s.2, c.from.ensures)

pub loop-b-preserved : goal.loop-b-preserved
loop-b-preserved c =
    let s = number_step c.args.text.now c.loop-b.b-index c.loop-b.number (search rules)
    c.loop-b-test.true c.loop-b.invariant in
    rw c.from.ensures s.1
