use Rattle.std.proofs.Common.{◌≡◌, ◌==◌, ◌+◌, ◌-◌, length, take, drop, arith, eq-eqb}
use Rattle.std.proofs.lemmas.Grind.{common_steps}
use Rattle.lines.proofs.Cuts.{cut_some, cut_none}
use Rattle.lines.proofs.cutting.cut.Goals as goal

pub returns-then-b-byte-clause-parts : goal.returns-then-b-byte-clause-parts
returns-then-b-byte-clause-parts c =
    let i = c.loop-i.i in
    let one = cut_some (λ b. b == c.args.byte) c.args.bytes.now i (omega arith) c.loop-i.invariant
    (eq-eqb _ _ c.if-b-byte.true) in
    let rest : take (length c.split_at.result.1.now - 1) (drop 1 c.split_at.result.1.now)
    ≡ drop (i + 1) c.args.bytes.now = grind (arith, common_steps) in
    rw (c.split_at.ensures.front, rest) one

pub returns-clause-parts : goal.returns-clause-parts
returns-clause-parts c =
    cut_none (λ b. b == c.args.byte) c.args.bytes.now (λ k lt. c.loop-i.invariant k (omega arith))
