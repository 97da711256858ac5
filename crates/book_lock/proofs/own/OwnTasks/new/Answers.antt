use Rattle.std.proofs.Common.{sym, subst}
use Rattle.std.specs.List.Sorted.{IsStrictlySortedBy}
use Rattle.drafts.specs.Rosters.{IsRoster}
use Rattle.book_lock.proofs.own.OwnTasks.new.Goals as goal

pub invariant_of-result : goal.invariant_of-result
unfolding IsStrictlySortedBy
invariant_of-result c =
    subst IsRoster (sym c.new.ensures.items) (record { valid = tt; ranked = tt; distinct = tt })
