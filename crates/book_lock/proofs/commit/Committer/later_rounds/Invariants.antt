use Rattle.std.proofs.Common.{◌≡◌}
use Rattle.book_lock.specs.Commits.{IsSameChange}
use Rattle.book_lock.proofs.Rounds.{IsBaseOf}
use Rattle.book_lock.proofs.commit.Committer.later_rounds.Given as goal

abbrev pub invariant-loop-round : goal.invariant-loop-round
invariant-loop-round g l = IsSameChange l.fn.draft l.draft × IsBaseOf l.fn.draft l.draft.base
    × (l.pass ≡ l.fn.pass)
