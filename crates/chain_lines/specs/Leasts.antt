-- The least bounds that are told of a set's chains.
use Rattle.std.specs.Prelude.{◌≡◌, ℕ, ◌<◌, Bool, true, false, List, [], ◌∷◌, Option, Some, None, IsFalse}
use Rattle.task_sheet.specs.Sheet.{Task}
use Rattle.chains.specs.Parts.{bound_in}
use Rattle.chains.specs.declared.bounds.Level.{Level}
use Rattle.chains.specs.declared.bounds.Writes.{Writes}
use Rattle.chains.specs.declared.bounds.Writes.TheVariants.{AtDeadline}
use Rattle.chain_tables.specs.Chains.{ChainData}
use Rattle.least_chains.specs.LeastBound.{ArePassing, IsLeastBound}
use Rattle.chain_lines.specs.ChainLines.{chain_bound, is_met}

-- where the limit isn't met, the chain's least bound is told
abbrev pub IsLeastTold : (is_met : Bool) → List Task → ChainData → (least : Option ℕ) → Type 0
IsLeastTold true U chain least = least ≡ None
IsLeastTold false U chain least = IsLeastBound chain.writes chain.offsets U chain.tasks least

-- those of all chains in an order whose levels have these responses
abbrev pub AreLeast : List Task → List Level → List ChainData → List (Option ℕ) → Type 0
AreLeast U levels [] leasts = leasts ≡ []
AreLeast U levels (chain ∷ chains) [] = ⊥
AreLeast U levels (chain ∷ chains) (least ∷ leasts) =
    IsLeastTold (is_met (chain_bound U levels chain) chain.limit) U chain least
    × AreLeast U levels chains leasts

-- THE NO IS FINAL where the least bound is past the limit: in no order that passes is the chain's bound within it
abbrev pub NoOrderMeets : Type 0
NoOrderMeets =
    (writes : Writes) (offsets : List ℕ) (U : List Task) (levels : List Level) (tasks : List ℕ)
    (least limit : ℕ)
    → IsLeastBound writes offsets U tasks (Some least) → limit < least → ArePassing U levels
    → IsFalse (is_met (bound_in writes offsets U levels tasks) (Some limit))

-- THE LEAST IS THE BOUND where the tasks write at their deadlines: what is told is what stands in front of it, and the no is
-- final
abbrev pub LeastIsTheBound : Type 0
LeastIsTheBound =
    (offsets : List ℕ) (U : List Task) (levels : List Level) (tasks : List ℕ) (bound : ℕ)
    (least : Option ℕ)
    → bound_in AtDeadline offsets U levels tasks ≡ Some bound
    → IsLeastBound AtDeadline offsets U tasks least → least ≡ Some bound
