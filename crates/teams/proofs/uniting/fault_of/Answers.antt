use Rattle.std.proofs.Common.{◌≡◌, ◌-◌, ◌+◌, refl, arith}
use Rattle.teams.proofs.TeamLaws.{taken}
use Rattle.teams.proofs.uniting.fault_of.Goals as goal

pub overflow_sub-task : goal.overflow_sub-task
overflow_sub-task c = (taken c.args.tasks.now _ _ c.in-SameName.is c.requires).1

pub taken_at-requires : goal.taken_at-requires
taken_at-requires c = (taken c.args.tasks.now _ _ c.in-SameName.is c.requires).2

pub returns-in-SameName : goal.returns-in-SameName
returns-in-SameName c =
    let at = taken c.args.tasks.now _ _ c.in-SameName.is c.requires in
    let back : (c.in-SameName.task - 1) + 1 ≡ c.in-SameName.task = omega (arith, at.1) in
    rw c.taken_at.ensures (c.in-SameName.task - 1, rw back at.0, refl)
