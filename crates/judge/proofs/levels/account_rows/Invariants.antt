use Rattle.std.proofs.Common.{◌≡◌, ◌++◌, ◌+◌, length}
use Rattle.std.specs.Vec.Iter.{into_iter_items}
use Rattle.judge.specs.Levels.{account_rows}
use Rattle.judge.proofs.levels.account_rows.Given as goal

abbrev pub invariant-loop-account : goal.invariant-loop-account
invariant-loop-account l =
    l.rows.items ++ account_rows (length l.rows.items + 1) (into_iter_items l.account-iterator)
    ≡ account_rows 1 l.fn.accounts.items
