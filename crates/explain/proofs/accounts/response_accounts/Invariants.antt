use Rattle.std.proofs.Common.{List, ◌++◌, length}
use Rattle.explain.specs.Accounts.{AreInTime, AreResponseAccounts}
use Rattle.explain.specs.declared.accounts.Account.{Account}
use Rattle.explain.proofs.accounts.response_accounts.Given as goal

-- with the accounts of the rest, those so far are the accounts of all
abbrev pub invariant-loop-place : goal.invariant-loop-place
invariant-loop-place l = record {
  in_time : AreInTime l.set l.rest;
  whole : (accounts : List Account) → AreResponseAccounts l.set l.rest accounts
      → AreResponseAccounts l.set l.places (l.accounts.items ++ accounts);
}

abbrev pub decreases-loop-place : goal.decreases-loop-place
decreases-loop-place l = length l.rest
