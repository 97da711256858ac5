use Rattle.std.proofs.Common.{take, Ok}
use Rattle.certificate.specs.Spelling.{chain_lines}
use Rattle.streams.specs.Puts.{Puts}
use Rattle.certificate.proofs.writing.put_chains.Given as goal

abbrev pub invariant-loop-chain : goal.invariant-loop-chain
invariant-loop-chain g l =
    Puts g.W.Write.contents l.fn.out l.out (Ok tt) (chain_lines (take l.chain-index l.chains))
