use Rattle.std.proofs.Common.{◌≡◌, ◌∙◌, ap, sym, arith}
use Rattle.response_time.specs.Workload.{further_work, counted_to}
use Rattle.response_time.proofs.Shares.{share_counted}
use Rattle.response_time.proofs.workload.count_all.Goals as goal

pub loop-share-preserved : goal.loop-share-preserved
loop-share-preserved c =
    let i = c.loop-share.share-index in
    let old = c.args.shares.now in
    let here = share_counted c.args.time old c.loop-share.shares i c.share-item.result
    c.loop-share-test.true c.loop-share.invariant.counted c.share-item.is in
    let written : c.count_to-work.new.self ≡ counted_to c.args.time c.share-item.result =
    c.count_to-work.ensures.counted ∙ ap (counted_to c.args.time) (sym c.share-item.is) in
    let worked : c.count_to-work.result ≡ further_work c.args.time c.share-item.result =
    c.count_to-work.ensures.work ∙ ap (further_work c.args.time) (sym c.share-item.is) in
    record {
      counted = rw written here.0;
      work = rw (here.1) (omega (arith, c.loop-share.invariant.work, worked));
      fits = omega (arith, c.loop-share.invariant.fits, c.count_to-work.ensures.fits);
    }
