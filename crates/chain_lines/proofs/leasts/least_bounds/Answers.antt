use Rattle.std.proofs.Common.{◌++◌, subst, sym}
use Rattle.chain_lines.specs.Leasts.{AreLeast}
use Rattle.chain_lines.proofs.LeastLaws.{ends, goes-on}
use Rattle.chain_lines.proofs.leasts.least_bounds.Goals as goal

pub loop-chain-init : goal.loop-chain-init
loop-chain-init c = λ rest more.
    subst (λ xs. AreLeast c.args.set.now c.args.levels.now c.args.chains.now (xs ++ rest))
    (sym c.in_ok-leasts.ensures.items) more

pub loop-chain-preserved : goal.loop-chain-preserved
loop-chain-preserved c =
    goes-on c.args.set.now c.args.levels.now c.args.chains.now c.loop-chain.chain-index c.chain-item.result
    c.loop-chain.leasts.items c.push.new.self.items c.in_ok-least.least c.loop-chain-test.true
    c.chain-item.is c.in_ok-push.ensures.items c.in_ok-least.ensures c.loop-chain.invariant

pub returns : goal.returns
returns c =
    ends c.args.set.now c.args.levels.now c.args.chains.now c.loop-chain.chain-index
    c.loop-chain.leasts.items c.loop-chain-test.false c.loop-chain.invariant
