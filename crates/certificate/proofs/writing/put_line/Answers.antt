use Rattle.streams.proofs.Puts.{puts_both}
use Rattle.certificate.proofs.writing.put_line.Goals as goal

pub returns : goal.returns
returns g c = puts_both (puts_both c.in_ok-put.ensures
    (puts_both c.in_ok-put-2.ensures c.in_ok-put_number.ensures)) c.put-3.ensures
