-- How far a climb is from its end.
use Rattle.std.proofs.Common.{◌≡◌, ℕ, ◌+◌, ◌<◌, ◌⊎◌, inl, inr, true, false, if◌then◌else◌, ap}
use Rattle.std.proofs.Common.{arith}
use Rattle.std.specs.FinSet as members
use Rattle.task_sheet.proofs.MembersIndexes.{len-of_member, len-remove_member}
use Rattle.assignment.specs.Climbs.{ClimbState, IsPlaced, IsEnded}

-- the tasks that are left, and one more for an obstruction
abbrev pub steps_left : ClimbState → ℕ
steps_left c = members.len c.left + (if c.stuck then 0 else 1)

steps-placed : (old new : ClimbState) → old.stuck ≡ false → IsPlaced old new
    → steps_left new < steps_left old
steps-placed old new goes_on placed =
    let fewer = len-remove_member old.left placed.level.task placed.chosen.member in
    let left : members.len new.left ≡ members.len (members.remove old.left placed.level.task) =
    ap (λ (c : ClimbState). members.len c.left) placed.after in
    let stuck : new.stuck ≡ false = ap (λ (c : ClimbState). c.stuck) placed.after in
    rw (goes_on, stuck) (omega arith)

steps-ended : (old new : ClimbState) → old.stuck ≡ false → IsEnded old new
    → steps_left new < steps_left old
steps-ended old new goes_on ended =
    let left : members.len new.left ≡ members.len old.left =
    ap (λ (c : ClimbState). members.len c.left) ended.after in
    let stuck : new.stuck ≡ true = ap (λ (c : ClimbState). c.stuck) ended.after in
    rw (goes_on, stuck) (omega arith)

pub steps-fewer : (old new : ClimbState) → old.stuck ≡ false → IsPlaced old new ⊎ IsEnded old new
    → steps_left new < steps_left old
steps-fewer old new goes_on (inl placed) = steps-placed old new goes_on placed
steps-fewer old new goes_on (inr ended) = steps-ended old new goes_on ended

-- who has a member is not empty
pub ruleset some_counted = (len-of_member)
