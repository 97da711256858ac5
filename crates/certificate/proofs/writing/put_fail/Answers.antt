use Rattle.streams.proofs.Puts.{puts_both}
use Rattle.certificate.proofs.writing.put_fail.Goals as goal

pub returns : goal.returns
returns g c =
    rw (← c.fail.view_is) (rw (← c.bytes.ensures.same)
    (puts_both (puts_both (puts_both c.in_ok-put.ensures (puts_both c.in_ok-put-2.ensures
    c.in_ok-put-3.ensures)) c.in_ok-put_reason.ensures) c.put-4.ensures))
