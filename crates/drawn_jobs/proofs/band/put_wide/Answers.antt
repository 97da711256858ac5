use Rattle.std.proofs.Common.{append-nil, append_assoc}
use Rattle.std.proofs.lemmas.Bool.{le-ltb, ne_eqb}
use Rattle.drawn_jobs.proofs.band.put_wide.Goals as goal

pub returns : goal.returns
returns c = rw (
  le-ltb c.args.wide 1860 c.if-wide-lt1860.false,
  ne_eqb c.args.outcome.done 0 c.if-outcome-eq0.false,
) (simp append-nil (simp (c.unit_of-unit.ensures, append-nil) at c.write.ensures.bytes))
