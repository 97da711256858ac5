use Rattle.std.proofs.Common.{arith}
use Rattle.response_time.specs.Workload.{work_within}
use Rattle.response_time.proofs.LeastWindows.{window-least}
use Rattle.response_time.proofs.workload.Workload.least_window.Goals as goal

pub returns : goal.returns
returns c = λ time positive covers.
    let w = c.args.self.now in
    let least = window-least 4294967296 c.least-once.result.0 c.least-once.result.1 (work_within
    time w) time c.if-parts-ge-WHOLE.false (c.least-once.ensures.least time positive) covers in
    omega (arith, least, c.div_ceil.ensures)
