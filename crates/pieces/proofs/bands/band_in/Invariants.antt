use Rattle.std.proofs.Common.{◌≡◌, ◌+◌, ◌≤◌, max, drop, length}
use Rattle.task_sheet.specs.Demand.{greatest_of}
use Rattle.pieces.specs.Bands.{all_of, arrival_of}
use Rattle.pieces.proofs.bands.band_in.Given as goal

abbrev pub invariant-loop-job : goal.invariant-loop-job
invariant-loop-job l = record {
  within : l.count ≤ l.job-index;
  count : l.count + length (all_of l.name (drop l.job-index l.jobs))
      ≡ length (all_of l.name l.jobs);
  latest : max l.latest (greatest_of arrival_of (all_of l.name (drop l.job-index l.jobs)))
      ≡ greatest_of arrival_of (all_of l.name l.jobs);
}
