use Rattle.task_sheet.proofs.MembersMeet.{meet-places}
use Rattle.task_sheet.proofs.members.Members.meets.Goals as goal

pub returns : goal.returns
returns c = rw (← c.self.view_is, ← c.other.view_is)
    (meet-places c.self.inside.bits c.other.inside.bits c.self.invariant)
