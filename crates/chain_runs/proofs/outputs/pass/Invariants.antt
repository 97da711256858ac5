use Rattle.std.proofs.Common.{◌≡◌, ◌++◌, take, drop, Some, None}
use Rattle.chain_runs.specs.Outputs.{along, last_output}
use Rattle.chain_runs.proofs.outputs.pass.Given as goal

abbrev pub invariant-loop-station : goal.invariant-loop-station
invariant-loop-station l = record {
  rest : drop l.station-index l.stations ≡ drop l.station-index l.fn.stations;
  passed : take l.station-index l.stations
      ++ along l.slice l.offered (drop l.station-index l.fn.stations)
      ≡ along l.slice (Some l.slice.start) l.fn.stations;
  output : last_output l.output l.slice l.offered (drop l.station-index l.fn.stations)
      ≡ last_output None l.slice (Some l.slice.start) l.fn.stations;
}
