use Rattle.std.proofs.Common.{◌≤◌, ◌<◌, ℕ, map}
use Rattle.book_lock.specs.Closing.{IsReceipted}
use Rattle.book_lock.proofs.closing.mismatch.Given as goal

abbrev pub invariant-loop-team : goal.invariant-loop-team
invariant-loop-team g l = (t : ℕ) → 1 ≤ t → t < l.team
    → IsReceipted l.passes (map (λ e. e.value) l.log) t
