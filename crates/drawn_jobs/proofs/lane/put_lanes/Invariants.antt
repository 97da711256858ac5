use Rattle.std.proofs.Common.{◌≡◌, ◌++◌, flat_map, string_bytes, take}
use Rattle.drawn_jobs.specs.Lane.{lane_by}
use Rattle.drawn_jobs.proofs.lane.put_lanes.Given as goal

abbrev pub invariant-loop-slice : goal.invariant-loop-slice
invariant-loop-slice l = string_bytes l.text ≡ string_bytes l.fn.text ++ flat_map
    (lane_by l.fn.chart.frame l.fn.chart.rows.now l.fn.chart.jobs.now)
    (take l.slice-index l.fn.chart.slices.now)
