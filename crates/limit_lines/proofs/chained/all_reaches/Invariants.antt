use Rattle.std.proofs.Common.{string_bytes}
use Rattle.limit_lines.specs.ChainReaches.{AreReaches}
use Rattle.limit_lines.proofs.chained.all_reaches.Given as goal

abbrev pub invariant-loop-task : goal.invariant-loop-task
invariant-loop-task l =
    AreReaches l.owners l.chain l.limit l.set l.order l.task (string_bytes l.text)
