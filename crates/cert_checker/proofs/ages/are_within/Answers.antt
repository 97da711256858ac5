use Rattle.std.proofs.Common.{ℕ, arith}
use Rattle.chains.specs.Walks.{span_from}
use Rattle.cert_checker.specs.Ready.{levels_of}
use Rattle.cert_checker.specs.Ages.{steps_in}
use Rattle.cert_checker.proofs.StartLaws.{within_end, within_not, within_past}
use Rattle.cert_checker.proofs.ages.are_within.Goals as goal

pub loop-n-preserved : goal.loop-n-preserved
loop-n-preserved c =
    let span : ℕ → ℕ = λ t. span_from (steps_in c.args.set.now (levels_of c.args.set.now c.args.levels.now) c.args.chain.now) t in
    record {
      within = within_past span c.loop-n.start c.args.starts.period c.args.starts.count c.loop-n.n c.args.number _
          (omega arith) (omega (arith, c.span_from.ensures, c.if-span_from-number.false)) c.loop-n.invariant.within;
      room = omega arith;
    }

pub returns-then-span_from-number : goal.returns-then-span_from-number
returns-then-span_from-number c =
    let span : ℕ → ℕ = λ t. span_from (steps_in c.args.set.now (levels_of c.args.set.now c.args.levels.now) c.args.chain.now) t in
    within_not span c.loop-n.start c.args.starts.period c.args.starts.count c.loop-n.n c.args.number _
    (omega arith) (omega (arith, c.span_from.ensures, c.if-span_from-number.true)) c.loop-n.invariant.within

pub returns : goal.returns
returns c =
    let span : ℕ → ℕ = λ t. span_from (steps_in c.args.set.now (levels_of c.args.set.now c.args.levels.now) c.args.chain.now) t in
    within_end span c.loop-n.start c.args.starts.period c.args.starts.count c.loop-n.n c.args.number _
    (omega (arith, c.loop-n-test.false)) c.loop-n.invariant.within
