use Rattle.std.proofs.Common.{sym, ◌∙◌}
use Rattle.lines.specs.Words.{words}
use Rattle.certificate.specs.Words.{numbers_in}
use Rattle.certificate.proofs.Loops.{before-bind}
use Rattle.certificate.proofs.words.numbers_of.Goals as goal

pub returns-in-None : goal.returns-in-None
unfolding numbers_in
returns-in-None c = rw (c.in-Some.ensures.parts, ← c.in-None.ensures) at c.loop-word.invariant

pub loop-word-preserved : goal.loop-word-preserved
unfolding numbers_in
loop-word-preserved c = rw c.in_ok-push-in-Some-number_of.ensures.items
    (sym (before-bind c.loop-word.numbers.items _ (numbers_in (words c.in-Some.after.now)))
    ∙ rw (c.in-Some.ensures.parts, ← c.in-Some-number_of.ensures) at c.loop-word.invariant)

pub returns-in-None-number_of : goal.returns-in-None-number_of
unfolding numbers_in
returns-in-None-number_of c =
    rw (c.in_default.ensures.parts, ← c.in-None-number_of.ensures) at c.loop-word.invariant

pub returns : goal.returns
unfolding numbers_in
returns c = rw c.in_ok-push-in-Some-number_of-2.ensures.items
    (rw (c.in_default.ensures.parts, ← c.in-Some-number_of-2.ensures) at c.loop-word.invariant)
