-- The levels of the best order are those of its places.
use Rattle.std.proofs.Common.{◌≡◌, List, [], ◌∷◌, refl, sym, ap, subst}
use Rattle.task_sheet.proofs.Common.{Task, IsOrder}
use Rattle.assignment.specs.Places.{PlaceData}
use Rattle.assignment.specs.Placings.{IsBestPlacing, tasks_of_places}
use Rattle.chains.specs.Parts.{order_of}
use Rattle.least_chains.specs.LeastBound.{levels_at}

same_order : (places : List PlaceData) → order_of (levels_at places) ≡ tasks_of_places places
same_order [] = refl
same_order (p ∷ places) = ap (λ order. p.task ∷ order) (same_order places)

pub levels_are_order : (U : List Task) (places : List PlaceData) → IsBestPlacing U places
    → IsOrder U (order_of (levels_at places))
levels_are_order U places is = subst (IsOrder U) (sym (same_order places)) is.best.passing.each_once
