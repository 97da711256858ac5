use Rattle.certificate.specs.CertificateLines.{level_read, levels_at, at_place}
use Rattle.certificate.proofs.Loops.{IsRead}
use Rattle.certificate.proofs.reading.Reader.levels.Given as goal

abbrev pub invariant-loop-i : goal.invariant-loop-i
invariant-loop-i l = IsRead (level_read l.self.version) l.count l.i (at_place l.at) l.levels.items
    (levels_at l.self.version l.count (at_place l.fn.at))
