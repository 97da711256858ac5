use Rattle.std.proofs.Common.{◌-◌, arith}
use Rattle.response_time.proofs.Shares.{jobs-fit}
use Rattle.response_time.proofs.workload.Share.count_to.Goals as goal

pub returns-clause-fits : goal.returns-clause-fits
returns-clause-fits c =
    rw c.div_ceil-jobs.ensures (jobs-fit c.self.inside.period c.self.inside.cost
    (c.args.time - c.self.inside.due) c.self.invariant.some c.self.invariant.within
    c.self.invariant.short (omega (arith, c.requires)))
