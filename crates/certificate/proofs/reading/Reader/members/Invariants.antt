use Rattle.certificate.specs.CertificateLines.{member_at, members_at, at_place}
use Rattle.certificate.proofs.Loops.{IsRead}
use Rattle.certificate.proofs.reading.Reader.members.Given as goal

abbrev pub invariant-loop : goal.invariant-loop
invariant-loop l = IsRead (λ k. member_at l.self.version) l.count l.counter (at_place l.at)
    l.members.items (members_at l.self.version l.count (at_place l.fn.at))
