use Rattle.std.proofs.Common.{string_bytes}
use Rattle.limit_lines.specs.ChainReaches.{AreReachLines}
use Rattle.limit_lines.proofs.chained.reaches_text.Given as goal

abbrev pub invariant-loop-place : goal.invariant-loop-place
invariant-loop-place l =
    AreReachLines l.owners l.chain l.limit l.set l.order l.task l.place (string_bytes l.text)
