use Rattle.std.proofs.Common.{◌≡◌, ◌+◌, ◌*◌, ◌^◌, ◌≤◌, length}
use Rattle.chains.specs.Parts.{steps_of}
use Rattle.chains.specs.Walks.{walk_from}
use Rattle.cert_checker.specs.Ready.{levels_of}
use Rattle.cert_checker.specs.Ages.{node_of, response_in}
use Rattle.cert_checker.proofs.ages.walk_from.Given as goal

abbrev pub invariant-loop-task : goal.invariant-loop-task
invariant-loop-task l = record {
  walk : walk_from (steps_of l.writes l.known (node_of l.set (levels_of l.set l.levels))
      (response_in (levels_of l.set l.levels)) l.rest) l.time
      ≡ walk_from (steps_of l.writes l.offsets (node_of l.set (levels_of l.set l.levels))
      (response_in (levels_of l.set l.levels)) l.tasks) l.start;
  late : l.start ≤ l.time;
  room : l.time + length l.rest * 2 ^ 66 ≤ l.start + length l.tasks * 2 ^ 66;
}

abbrev pub decreases-loop-task : goal.decreases-loop-task
decreases-loop-task l = length l.rest
