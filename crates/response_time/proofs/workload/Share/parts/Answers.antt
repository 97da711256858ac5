use Rattle.std.proofs.Common.{◌*◌, ◌/◌, ◌≤◌, subst}
use Rattle.response_time.specs.Workload.{ShareData, share_within}
use Rattle.response_time.proofs.LeastWindows.{parts-le}
use Rattle.response_time.proofs.workload.Share.parts.Goals as goal

pub returns-clause-least : goal.returns-clause-least
returns-clause-least c = λ time.
    subst (λ (s : ShareData). time * (c.self.inside.cost * 4294967296 / c.self.inside.period)
    ≤ 4294967296 * share_within time s) c.self.view_is
    (parts-le c.self.inside.cost c.self.inside.period c.self.inside.jitter time 4294967296
    c.self.invariant.some)
