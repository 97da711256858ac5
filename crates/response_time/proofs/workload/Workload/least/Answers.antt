use Rattle.std.proofs.Common.{ℕ, ◌<◌, ap, arith}
use Rattle.response_time.specs.Workload.{ShareData}
use Rattle.response_time.proofs.LeastWindows.{once-le, share_more}
use Rattle.response_time.proofs.workload.Workload.least.Goals as goal
use Rattle.response_time.proofs.workload.Workload.least.Goals.{then-share-split, else-share-split}

pub loop-share-preserved : goal.loop-share-preserved
loop-share-preserved c =
    let s = c.share-item.result in
    let inv = c.loop-share.invariant in
    let cost = ap (λ (d : ShareData). d.cost) c.share.view_is in
    let positive : 0 < s.period =
    omega (arith, ap (λ (d : ShareData). d.period) c.share.view_is, c.share.invariant.some) in
    let more = λ (time : ℕ). share_more time c.loop-share.share-index _ s c.loop-share-test.true
    c.share-item.is in
    elim c.if-share-split.branch [
      | then-share-split w ↦ record {
        once = omega (
          arith,
          inv.once,
          w.once-is,
          c.share.invariant.short,
          c.share.invariant.within,
        );
        parts = omega (arith, inv.parts, w.parts-is);
        least = λ time some. rw (more time, w.parts-is, w.once-is)
            (omega (arith, inv.least time some, cost, once-le s time positive some));
      }
      | else-share-split w ↦ record {
        once = omega (arith, inv.once, w.once-is);
        parts = omega (arith, inv.parts, w.parts-is, w.parts-parts.ensures.fits);
        least = λ time some. rw (more time, w.parts-is, w.once-is)
            (omega (arith, inv.least time some, w.parts-parts.ensures.least time));
      }
    ]
