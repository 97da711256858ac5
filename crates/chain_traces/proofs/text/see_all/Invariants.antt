use Rattle.std.proofs.Common.{◌≡◌, ◌++◌, ◌&&◌, drop, string_bytes}
use Rattle.std.specs.List.{list_all}
use Rattle.chain_traces.specs.TraceChainLines.{chain_lines, is_fresh, scene_of}
use Rattle.chain_traces.proofs.text.see_all.Given as goal

abbrev pub invariant-loop-chain : goal.invariant-loop-chain
invariant-loop-chain l = record {
  lines : string_bytes l.text ++ chain_lines (scene_of l.scene) (drop l.chain-index l.chains)
      ≡ string_bytes l.fn.text ++ chain_lines (scene_of l.scene) l.chains;
  are : l.are_kept && list_all (is_fresh (scene_of l.scene)) (drop l.chain-index l.chains)
      ≡ list_all (is_fresh (scene_of l.scene)) l.chains;
}
