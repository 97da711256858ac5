use Rattle.std.proofs.Common.{◌≡◌, take}
use Rattle.judge.specs.Judgements.{judged_of}
use Rattle.judge.proofs.places.places_of.Given as goal

abbrev pub invariant-loop-entry : goal.invariant-loop-entry
invariant-loop-entry l = take l.entry-index l.judged ≡ judged_of l.places.items
