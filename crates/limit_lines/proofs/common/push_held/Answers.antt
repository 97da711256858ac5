use Rattle.std.proofs.Common.{◌+◌, arith}
use Rattle.limits.proofs.SharedLaws.{within-shared}
use Rattle.limit_lines.proofs.common.push_held.Goals as goal

pub room_fault-requires : goal.room_fault-requires
room_fault-requires c = rw c.with_shared.ensures (within-shared c.args.number c.args.node
    (c.args.most + 1) c.requires.limits (omega (arith, c.requires.within)))
