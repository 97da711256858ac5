use Rattle.std.proofs.Common.{refl}
use Rattle.lines.proofs.Parts.{words_some}
use Rattle.certificate.proofs.Loops.{some_first}
use Rattle.certificate.proofs.reading.count_of.Goals as goal

pub returns-in-Some-clause-is : goal.returns-in-Some-clause-is
returns-in-Some-clause-is c =
    let more = some_first _ (words_some c.in-Some._more.now) in
    rw (c.in_ok-first.ensures.parts, c.in-Some.ensures.parts, more.2) refl
