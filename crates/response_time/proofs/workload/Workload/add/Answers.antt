use Rattle.std.proofs.Common.{◌≡◌, ◌<◌, length, take, ap, arith}
use Rattle.std.proofs.lemmas.List.{length-take-le}
use Rattle.response_time.specs.Workload.{ShareData, WorkloadData, work_within}
use Rattle.response_time.proofs.Shares.{IsCarried-added, share_within-still}
use Rattle.response_time.proofs.workload.Workload.add.Goals as goal

pub invariant_of-self : goal.invariant_of-self
invariant_of-self c =
    let count = c.self.inside.count in
    let shares = c.self.inside.shares in
    let long : length (take count shares) ≡ count =
    length-take-le count shares (omega (arith, c.self.invariant.0)) in
    let same : length (take count shares) ≡ length c.args.self.now.shares =
    ap (λ (w : WorkloadData). length w.shares) c.self.view_is in
    let room : count < 32 = omega (arith, long, same, c.requires.room) in (
      omega (arith, room),
      c.self.invariant.1,
      c.self.invariant.2,
      IsCarried-added c.self.inside.always c.self.inside.time c.self.inside.total
          c.of-share.result.1 count shares c.of-share.result.0 (omega (arith, room))
          c.self.invariant.3 c.of-share.ensures.counted c.of-share.ensures.work,
    )

pub returns-else-share-limit-clause-is : goal.returns-else-share-limit-clause-is
returns-else-share-limit-clause-is c = λ time from to.
    let due = ap (λ (s : ShareData). s.due) c.share.view_is in
    let here = ap (λ (w : WorkloadData). w.time) c.self.view_is in
    let still =
    share_within-still c.of-share.result.0 c.self.inside.time time c.of-share.ensures.counted
    (omega (arith, here, from)) (omega (arith, due, to, c.if-share-limit.false)) in
    let before = ap (λ (w : WorkloadData). work_within time w) c.self.view_is in
    omega (arith, still, c.of-share.ensures.is time, c.of-share.ensures.work, before)
