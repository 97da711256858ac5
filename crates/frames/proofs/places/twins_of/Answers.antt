use Rattle.frames.specs.Places.{twin_of}
use Rattle.frames.proofs.Chosen.{map_more}
use Rattle.frames.proofs.places.twins_of.Goals as goal

pub loop-rank-preserved : goal.loop-rank-preserved
loop-rank-preserved c = rw (
  map_more (twin_of c.args.rows.now c.args.other.now c.args.shown.now) c.args.rows_shown.now
      c.loop-rank.rank-index c.loop-rank-test.true,
  ← c.loop-rank.invariant,
  ← c.twin_of.ensures,
) c.in_ok-push.ensures.items
