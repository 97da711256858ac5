use Rattle.streams.proofs.Puts.{puts_both}
use Rattle.certificate.proofs.writing.put_chain.Goals as goal

pub returns : goal.returns
returns g c = rw (← c.bytes.ensures.same) (puts_both c.in_ok-put.ensures c.put_line.ensures)
