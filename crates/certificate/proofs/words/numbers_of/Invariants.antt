use Rattle.std.proofs.Common.{◌≡◌, length}
use Rattle.lines.specs.Words.{words}
use Rattle.certificate.specs.Words.{numbers_in, numbers_before}
use Rattle.certificate.proofs.words.numbers_of.Given as goal

abbrev pub invariant-loop-word : goal.invariant-loop-word
invariant-loop-word l =
    numbers_before l.numbers.items (numbers_in (words l.rest)) ≡ numbers_in (words l.text)

abbrev pub decreases-loop-word : goal.decreases-loop-word
decreases-loop-word l = length l.rest
