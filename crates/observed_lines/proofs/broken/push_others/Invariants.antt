use Rattle.std.proofs.Common.{◌≡◌, ◌++◌, drop, string_bytes}
use Rattle.observed_lines.specs.Broken.{others_words}
use Rattle.observed_lines.proofs.broken.push_others.Given as goal

abbrev pub invariant-loop-culprit : goal.invariant-loop-culprit
invariant-loop-culprit l = string_bytes l.text ++ others_words (drop l.culprit-index l.culprits)
    ≡ string_bytes l.fn.text ++ others_words l.culprits
