use Rattle.std.proofs.Common.{◌≡◌, false, ◌&&◌}
use Rattle.task_sheet.proofs.Common.{indexes_of, some_below, must_outrank}
use Rattle.cert_checker.proofs.outranking.must_outrank_any.Given as goal

abbrev pub invariant-loop-other : goal.invariant-loop-other
invariant-loop-other l =
    some_below l.other (λ k. indexes_of l.above k && must_outrank l.set l.task k) ≡ false
