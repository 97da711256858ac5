use Rattle.release_list.proofs.ArrivalLaws.{none_between}
use Rattle.release_list.proofs.list.next_arrival.Goals as goal

pub returns-clause-none : goal.returns-clause-none
returns-clause-none c = λ t less more. none_between c.args.time t c.args.stream.now
    c.requires.stream.some c.if-time-stream.false less more
