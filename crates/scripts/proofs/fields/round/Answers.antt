use Rattle.scripts.proofs.Nodes.{cut_twice}
use Rattle.scripts.proofs.fields.round.Goals as goal

pub returns-in-Some : goal.returns-in-Some
returns-in-Some c =
    rw (c.in_ok-front.ensures.parts, c.in-Some.ensures.parts)
    (cut_twice c.args.byte c.in_ok-front.front.now c.in-Some._middle.now c.in-Some._more.now)
