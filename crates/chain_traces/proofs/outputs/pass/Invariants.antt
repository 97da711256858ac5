use Rattle.std.proofs.Common.{◌≡◌, ◌++◌, take, drop, Some}
use Rattle.chain_traces.specs.Outputs.{along}
use Rattle.chain_traces.proofs.outputs.pass.Given as goal

abbrev pub invariant-loop-watch : goal.invariant-loop-watch
invariant-loop-watch l = record {
  rest : drop l.watch-index l.watches ≡ drop l.watch-index l.fn.watches;
  passed : take l.watch-index l.watches
      ++ along l.execution l.offered (drop l.watch-index l.fn.watches)
      ≡ along l.execution (Some l.execution.start) l.fn.watches;
}
