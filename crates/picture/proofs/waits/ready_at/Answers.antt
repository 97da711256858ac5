use Rattle.std.proofs.Common.{refl, sym}
use Rattle.std.proofs.lemmas.Bool.{ltb-false, ltb-true}
use Rattle.std.proofs.lemmas.Option.{slice_get-get_or, slice_get_past}
use Rattle.picture.proofs.waits.ready_at.Goals as goal

pub returns-in-None : goal.returns-in-None
returns-in-None c = rw (slice_get_past c.args.releases.now c.args.job
    (ltb-false _ _ (sym c.in-None.ensures.lookup.0))) refl

pub returns-in-Some : goal.returns-in-Some
returns-in-Some c = rw (
  slice_get-get_or c.args.releases.now c.args.job c.in-Some.release.now
      (ltb-true _ _ (sym c.in-Some.ensures.lookup.0)),
  ← c.in-Some.ensures.lookup.1,
  c.min.ensures,
  c.min-in-Some.ensures,
  ← c.frame.view_is,
) refl
