use Rattle.std.proofs.Common.{append_assoc}
use Rattle.std.proofs.lemmas.Bool.{ne_eqb}
use Rattle.picture.proofs.margin.put_missed_line.Goals as goal

pub returns : goal.returns
returns c = rw (ne_eqb c.args.missed 0 c.if-missed-eq0.false) (simp (c.in_ok-put_late.ensures, c.in_ok-write.ensures.bytes, c.top_of.ensures.value, c.in_millis.ensures, append_assoc) at c.writeln.ensures.bytes)
