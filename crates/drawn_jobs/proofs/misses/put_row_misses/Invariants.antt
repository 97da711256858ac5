use Rattle.std.proofs.Common.{◌≡◌, ◌++◌, string_bytes}
use Rattle.frames.specs.PictureRows.{each, record_at}
use Rattle.drawn_jobs.specs.Misses.{badge_before, miss_text}
use Rattle.drawn_jobs.proofs.misses.put_row_misses.Given as goal

abbrev pub invariant-loop-i : goal.invariant-loop-i
invariant-loop-i l = record {
  put : string_bytes l.text ≡ string_bytes l.fn.text ++ each l.i
      (λ i. miss_text l.fn.lane.frame l.fn.lane.spot.k l.fn.lane.row.now
      (badge_before l.fn.lane.frame l.fn.lane.row.now l.fn.jobs i) (record_at l.fn.jobs i));
  last : l.last ≡ badge_before l.fn.lane.frame l.fn.lane.row.now l.fn.jobs l.i;
}
