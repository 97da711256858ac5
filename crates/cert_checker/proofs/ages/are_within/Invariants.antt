use Rattle.std.proofs.Common.{◌≡◌, ◌<◌, ◌+◌, ◌-◌, ◌*◌, ◌^◌}
use Rattle.std.specs.Prelude.{nat_le}
use Rattle.task_sheet.specs.Demand.{greatest_of}
use Rattle.chains.specs.Walks.{arrivals, span_from}
use Rattle.cert_checker.specs.Ready.{levels_of}
use Rattle.cert_checker.specs.Ages.{steps_in}
use Rattle.cert_checker.proofs.ages.are_within.Given as goal

abbrev pub invariant-loop-n : goal.invariant-loop-n
invariant-loop-n l = record {
  within : nat_le (greatest_of (λ t. span_from (steps_in l.set (levels_of l.set l.levels) l.chain) t)
      (arrivals l.start l.starts.period (l.starts.count - l.n))) l.number
      ≡ nat_le (greatest_of (λ t. span_from (steps_in l.set (levels_of l.set l.levels) l.chain) t)
      (arrivals l.starts.first l.starts.period l.starts.count)) l.number;
  room : l.start < (l.n + 1) * 2 ^ 64;
}
