use Rattle.std.proofs.Common.{◌≡◌, nat_eq}
use Rattle.task_sheet.specs.MembersWords.{same_members}
use Rattle.task_sheet.proofs.Equality.{same_bits, same_members_told}
use Rattle.task_sheet.proofs.members.MembersPartialEq.eq.Goals as goal

pub returns : goal.returns
returns c =
    let value : nat_eq c.self.inside.bits c.other.inside.bits
    ≡ same_members c.args.self.now c.args.other.now =
    rw (← c.self.view_is, ← c.other.view_is)
    (same_bits c.self.inside.bits c.other.inside.bits c.self.invariant c.other.invariant) in
    record { value = value; same = same_members_told c.args.self.now c.args.other.now _ value }
