use Rattle.std.proofs.Common.{arith}
use Rattle.release_list.proofs.TimeLaws.{none_at}
use Rattle.release_list.proofs.list.next_time.Goals as goal

pub returns-clause-none : goal.returns-clause-none
returns-clause-none c = λ t less more. none_at c.args.streams.now t c.args.until
    (λ i lt. c.loop-stream.invariant.2 i t (omega arith) less more)
