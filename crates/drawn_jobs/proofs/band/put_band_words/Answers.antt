use Rattle.std.proofs.Common.{append_assoc}
use Rattle.drawn_jobs.proofs.band.put_band_words.Goals as goal

pub returns : goal.returns
returns c = simp (c.in_ok-put_greatest.ensures, c.in_ok-write.ensures.bytes, append_assoc)
    at c.writeln.ensures.bytes
