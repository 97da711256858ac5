-- What explains a placing of a set.
use Rattle.std.specs.Prelude.{◌≡◌, List, length}
use Rattle.std.specs.List.{AllByRecursion}
use Rattle.task_sheet.specs.Sheet.{Task}
use Rattle.task_sheet.specs.Indexes.{indexes_of, listed_below}
use Rattle.assignment.specs.declared.placing.Placing.{Placing}
use Rattle.assignment.specs.declared.placing.Placing.TheVariants.{Best, Stuck}
use Rattle.explain.specs.Conflict.{IsLeftOf}
use Rattle.explain.specs.Parts.{total_of}
use Rattle.explain.specs.Accounts.{AreResponseAccounts}
use Rattle.explain.specs.Needs.{AreNeedsOf}
use Rattle.explain.specs.declared.needs.Need.{Need}
use Rattle.explain.specs.declared.needs.Need.TheVariants.{Needs, MustBeAbove}
use Rattle.explain.specs.declared.explanation.Explanation.{Explanation}
use Rattle.explain.specs.declared.explanation.Explanation.TheVariants.{Responses, Conflict}

-- each response of the order with its parts; or what is left of the greatest obstruction once its tasks are gone through
-- by rank, and why each of these tasks may not stand below the others
abbrev pub Explains : List Task → Placing → Explanation → Type 0
Explains U (Best places) (Responses accounts) = AreResponseAccounts U places.items accounts.items
Explains U (Stuck greatest) (Conflict left needs) =
    IsLeftOf U (indexes_of greatest) (length U) (indexes_of left)
    × AreNeedsOf U (indexes_of left) (listed_below (length U) (indexes_of left)) needs.items
Explains U _ _ = ⊥

-- what a task of a conflict needs is what its parts come to
abbrev pub NeedAddsUp : Need → Type 0
NeedAddsUp (Needs a) = a.time ≡ total_of a.parts
NeedAddsUp (MustBeAbove task other) = Unit {0}

-- each time is what its parts come to
abbrev pub AddsUp : Explanation → Type 0
AddsUp (Responses accounts) = AllByRecursion (λ a. a.time ≡ total_of a.parts) accounts.items
AddsUp (Conflict left needs) = AllByRecursion NeedAddsUp needs.items
