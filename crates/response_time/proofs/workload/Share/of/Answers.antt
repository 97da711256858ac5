use Rattle.std.proofs.Common.{◌+◌, ◌≤◌, arith}
use Rattle.response_time.proofs.Shares.{jobs-fit}
use Rattle.response_time.proofs.workload.Share.of.Goals as goal

pub returns-clause-fits : goal.returns-clause-fits
returns-clause-fits c =
    let valid = c.requires.valid in
    let jitter = c.jitter-jitter.ensures in
    let period = c.period-period.ensures in
    let cost = c.cost-cost.ensures in
    let short : c.args.time + c.jitter-jitter.result ≤ 20000000 =
    omega (arith, jitter, valid.jitter, valid.deadline_to, valid.period_to, c.requires.time) in
    let fits =
    jobs-fit c.period-period.result c.cost-cost.result (c.args.time + c.jitter-jitter.result)
    (omega (arith, period, valid.period_from)) (omega (arith, cost, period, valid.cost_to))
    (omega (arith, period, valid.period_to)) short in
    rw c.div_ceil-jobs.ensures fits
