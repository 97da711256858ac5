use Rattle.std.proofs.Common.{◌≡◌, List, [], ◌∷◌, length, append-nil, arith}
use Rattle.task_sheet.specs.Sheet.{Task}
use Rattle.assignment.specs.Places.{PlaceData}
use Rattle.explain.specs.Accounts.{AreResponseAccounts}
use Rattle.explain.proofs.accounts.response_accounts.Goals as goal

none-left : (U : List Task) (places : List PlaceData) → length places ≡ 0
    → AreResponseAccounts U places []
none-left U [] none = tt
none-left U (p ∷ places) none = absurd (omega (arith, none))

pub returns : goal.returns
returns c =
    rw append-nil at (c.loop-place.invariant.whole []
    (none-left c.args.set.now c.loop-place.rest.now c.in_default.ensures.cases))
