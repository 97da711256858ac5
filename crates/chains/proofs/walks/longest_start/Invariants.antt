use Rattle.std.proofs.Common.{◌≡◌, ◌<◌, ◌+◌, ◌-◌, ◌*◌, ◌^◌, ◌==◌}
use Rattle.std.specs.Prelude.{find}
use Rattle.chains.specs.Walks.{arrivals, span_from}
use Rattle.chains.proofs.walks.longest_start.Given as goal

abbrev pub invariant-loop-n : goal.invariant-loop-n
invariant-loop-n l = record {
  first : find (λ t. span_from l.steps t == l.longest)
      (arrivals l.start l.starts.period (l.starts.count - l.n))
      ≡ find (λ t. span_from l.steps t == l.longest)
      (arrivals l.starts.first l.starts.period l.starts.count);
  room : l.start < (l.n + 1) * 2 ^ 64;
}
