use Rattle.streams.proofs.Puts.{puts_both}
use Rattle.certificate.proofs.writing.put_reason.Goals as goal

pub returns-in_ok-put-in-Over : goal.returns-in_ok-put-in-Over
returns-in_ok-put-in-Over g c =
    rw c.in-Over.is
    (rw (← c.bytes.ensures.same) (puts_both c.in_ok-put-in-Over.ensures c.put-in-Over.ensures))
