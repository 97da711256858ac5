use Rattle.std.proofs.Common.{◌≡◌, ◌++◌, drop}
use Rattle.observed.specs.Near.{behind}
use Rattle.observed.specs.Observed.{seen_from, seen_jobs}
use Rattle.observed.specs.Pieces.{pieces_at}
use Rattle.observed.proofs.observing.seen_jobs.Given as goal

abbrev pub invariant-loop-place : goal.invariant-loop-place
invariant-loop-place l = record {
  near : pieces_at l.promises l.rest.homes.now l.rest.slices.now
      ≡ behind l.reached (pieces_at l.promises l.housed.homes.now l.housed.slices.now);
  whole : l.seen.items ++ seen_from l.set l.promises l.end
      (pieces_at l.promises l.housed.homes.now l.housed.slices.now) l.jobs l.place (drop l.place l.jobs)
      ≡ seen_jobs l.set l.promises l.end (pieces_at l.promises l.housed.homes.now l.housed.slices.now)
      l.jobs;
}
