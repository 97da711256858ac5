use Rattle.std.proofs.Common.{take, Ok}
use Rattle.certificate.specs.Spelling.{fail_lines}
use Rattle.streams.specs.Puts.{Puts}
use Rattle.certificate.proofs.writing.put_fails.Given as goal

abbrev pub invariant-loop-fail : goal.invariant-loop-fail
invariant-loop-fail g l =
    Puts g.W.Write.contents l.fn.out l.out (Ok tt) (fail_lines l.word (take l.fail-index l.fails))
