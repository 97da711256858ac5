use Rattle.std.proofs.Common.{◌≡◌, ◌≤◌, ◌+◌, ◌*◌, ◌^◌, drop}
use Rattle.chains.specs.Walks.{walk_from}
use Rattle.chains.proofs.walks.span_from.Given as goal

abbrev pub invariant-loop-step : goal.invariant-loop-step
invariant-loop-step l = record {
  walk : walk_from (drop l.step-index l.others) l.time ≡ walk_from l.others l.initial.time;
  later : l.start ≤ l.time;
  room : l.time ≤ 2 ^ 82 + l.step-index * 2 ^ 65;
}
