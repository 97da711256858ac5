use Rattle.std.proofs.Common.{take, Ok}
use Rattle.certificate.specs.Spelling.{numbers_text}
use Rattle.streams.specs.Puts.{Puts}
use Rattle.certificate.proofs.writing.put_numbers.Given as goal

abbrev pub invariant-loop-number : goal.invariant-loop-number
invariant-loop-number g l =
    Puts g.W.Write.contents l.fn.out l.out (Ok tt) (numbers_text (take l.number-index l.numbers))
