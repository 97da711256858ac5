use Rattle.std.proofs.Common.{take, Ok}
use Rattle.certificate.specs.Spelling.{level_spellings}
use Rattle.streams.specs.Puts.{Puts}
use Rattle.certificate.proofs.writing.put_levels.Given as goal

abbrev pub invariant-loop-i : goal.invariant-loop-i
invariant-loop-i g l =
    Puts g.W.Write.contents l.fn.out l.out (Ok tt) (level_spellings 1 (take l.i l.levels))
