use Rattle.std.proofs.Common.{◌≡◌, ◌<◌, ◌+◌, ◌-◌, ◌*◌, ◌^◌, max}
use Rattle.task_sheet.specs.Demand.{greatest_of}
use Rattle.chains.specs.Walks.{arrivals, span_from}
use Rattle.chains.proofs.walks.longest_of.Given as goal

abbrev pub invariant-loop-n : goal.invariant-loop-n
invariant-loop-n l = record {
  greatest : max l.longest (greatest_of (λ t. span_from l.steps t)
      (arrivals l.start l.starts.period (l.starts.count - l.n)))
      ≡ greatest_of (λ t. span_from l.steps t) (arrivals l.starts.first l.starts.period l.starts.count);
  room : l.start < (l.n + 1) * 2 ^ 64;
}
