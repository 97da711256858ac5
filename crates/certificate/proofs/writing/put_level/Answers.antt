use Rattle.streams.proofs.Puts.{puts_both}
use Rattle.certificate.proofs.Sent.{level_pieces}
use Rattle.certificate.proofs.writing.put_level.Goals as goal

pub returns : goal.returns
returns g c =
    rw (← level_pieces c.args.k c.args.level.now)
    (rw (← c.level.view_is) (rw (← c.bytes.ensures.same)
    (puts_both (puts_both c.in_ok-put.ensures c.in_ok-put_number.ensures)
    (puts_both c.in_ok-put-2.ensures c.put_line.ensures))))
