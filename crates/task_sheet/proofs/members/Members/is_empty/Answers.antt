use Rattle.std.proofs.Common.{arith}
use Rattle.task_sheet.specs.Members.{places}
use Rattle.task_sheet.proofs.Equality.{same_bits, same_members_told}
use Rattle.task_sheet.proofs.MembersEdits.{places-zero}
use Rattle.task_sheet.proofs.members.Members.is_empty.Goals as goal

pub returns : goal.returns
returns c =
    rw (← c.self.view_is, ← places-zero) (same_members_told (places c.self.inside.bits) (places 0) _
    (same_bits c.self.inside.bits 0 c.self.invariant (omega arith)))
