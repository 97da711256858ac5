use Rattle.std.proofs.Common.{◌≡◌, ◌++◌, flat_map, string_bytes, take}
use Rattle.drawn_jobs.specs.Bars.{dark_text}
use Rattle.drawn_jobs.proofs.bars.put_slice_in.Given as goal

abbrev pub invariant-loop-section : goal.invariant-loop-section
invariant-loop-section l = string_bytes l.text ≡ string_bytes l.initial.text ++ flat_map
    (dark_text l.fn.lane.frame l.fn.lane.locks.now l.fn.executed l.fn.slice l.fn.lane.spot.k l.fn.lane.row.now)
    (take l.section-index l.section-items)
