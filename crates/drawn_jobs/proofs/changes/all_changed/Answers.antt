use Rattle.std.proofs.Common.{◌∙◌, ℕ, Bool, ap, arith, sym}
use Rattle.std.specs.Prelude.{slice_get}
use Rattle.frames.specs.PictureRows.{record_at}
use Rattle.drawn_jobs.specs.Changes.{counted_with, has_changed}
use Rattle.drawn_jobs.proofs.Changed.{changed_none, changed_more}
use Rattle.drawn_jobs.proofs.changes.all_changed.Goals as goal

pub loop-i-init : goal.loop-i-init
loop-i-init c = record {
  within = omega arith;
  counted = changed_none c.args.end c.args.old.now c.args.jobs.now;
}

pub loop-i-preserved : goal.loop-i-preserved
loop-i-preserved c = record {
  within = omega (arith, c.counted_with-count.ensures.within, c.loop-i.invariant.within);
  counted = c.counted_with-count.ensures.value
      ∙ ap (λ (is : Bool). counted_with is c.loop-i.count) c.has_changed.ensures
      ∙ ap (λ (n : ℕ). counted_with (has_changed c.args.end (record_at c.args.jobs.now c.loop-i.i)
      (slice_get c.args.old.now c.loop-i.i)) n) c.loop-i.invariant.counted
      ∙ sym (changed_more c.args.end c.args.old.now c.args.jobs.now c.loop-i.i);
}
