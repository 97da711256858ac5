use Rattle.std.proofs.Common.{sym, append-nil}
use Rattle.frames.specs.Places.{is_alone}
use Rattle.frames.proofs.Chosen.{filter_more}
use Rattle.frames.proofs.places.alone_of.Goals as goal
use Rattle.frames.proofs.places.alone_of.Goals.{then-is_alone+in_ok-push, else-is_alone}

pub loop-rank-preserved : goal.loop-rank-preserved
loop-rank-preserved c = rw (
  filter_more (is_alone c.args.rows.now c.args.other.now c.args.shown.now) c.args.rows_shown.now
      c.loop-rank.rank-index c.loop-rank-test.true,
  ← c.loop-rank.invariant,
  ← c.is_alone.ensures,
) (elim c.if-is_alone.branch [
  | then-is_alone+in_ok-push w ↦ rw (w.if-is_alone.true, w.ranks-is) w.in_ok-push.ensures.items
  | else-is_alone w ↦ rw (w.if-is_alone.false, w.ranks-is) (sym (append-nil c.loop-rank.ranks.items))
])
