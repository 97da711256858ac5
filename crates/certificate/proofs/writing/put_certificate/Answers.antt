use Rattle.streams.proofs.Puts.{puts_both}
use Rattle.certificate.proofs.writing.put_certificate.Goals as goal

pub returns : goal.returns
returns g c = puts_both (puts_both (puts_both c.in_ok-put_head.ensures c.in_ok-put_body.ensures)
    c.in_ok-put_chains.ensures) c.put.ensures
