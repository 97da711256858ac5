use Rattle.std.proofs.Common.{string_bytes, sym}
use Rattle.drawn_jobs.specs.Misses.{badge_before, miss_text}
use Rattle.frames.specs.PictureRows.{record_at}
use Rattle.drawn_jobs.proofs.Badges.{no_badge, badge_more}
use Rattle.frames.proofs.Eachs.{each_init, each_next}
use Rattle.drawn_jobs.proofs.misses.put_row_misses.Goals as goal

pub loop-i-init : goal.loop-i-init
loop-i-init c =
    let f = c.args.lane.now.frame in
    let row = c.args.lane.now.row.now in
    let jobs = c.args.jobs.now in
    record {
      put = each_init (string_bytes c.args.text.now) (λ i. miss_text f c.args.lane.now.spot.k row
          (badge_before f row jobs i) (record_at jobs i));
      last = sym (no_badge f row jobs);
    }

pub loop-i-preserved : goal.loop-i-preserved
loop-i-preserved c =
    let f = c.args.lane.now.frame in
    let row = c.args.lane.now.row.now in
    let jobs = c.args.jobs.now in
    record {
      put = each_next (string_bytes c.args.text.now) (string_bytes c.loop-i.text)
          (string_bytes c.put_miss.new.text) (λ i. miss_text f c.args.lane.now.spot.k row
          (badge_before f row jobs i) (record_at jobs i)) c.loop-i.i c.loop-i.invariant.put
          (rw (← c.job_at-job.ensures, ← c.loop-i.invariant.last) c.in_ok-put_miss.ensures);
      last = rw (
        badge_more f row jobs c.loop-i.i,
        ← c.loop-i.invariant.last,
        ← c.job_at-job.ensures,
      )
          c.badge_after-last.ensures;
    }
