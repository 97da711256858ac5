use Rattle.std.proofs.Common.{option_map, string_bytes}
use Rattle.limit_lines.specs.Locks.{AreFirstLines}
use Rattle.limit_lines.proofs.locks.locks_text.Given as goal

abbrev pub invariant-loop-place : goal.invariant-loop-place
invariant-loop-place l =
    AreFirstLines l.owners l.set (option_map (λ o. o.now) l.order) l.place (string_bytes l.text)
