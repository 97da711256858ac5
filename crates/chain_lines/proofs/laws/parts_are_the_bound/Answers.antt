use Rattle.std.proofs.Common.{◌≡◌, ◌∙◌, ℕ, Bool, true, false, List, ◌∷◌, Option, Some, None, sym, subst, if◌then◌else◌}
use Rattle.std.specs.List.{list_all}
use Rattle.std.proofs.lemmas.Option.{same_Some}
use Rattle.ceiling_kernel.specs.Tick.{Node, node_in}
use Rattle.chains.specs.Bounds.{bound_of}
use Rattle.chains.specs.Parts.{has_response, order_of, steps_of, time_in}
use Rattle.chains.specs.Walks.{bound_by}
use Rattle.chains.proofs.OffsetLaws.{offsets_law, steady_bound_law}
use Rattle.chains.proofs.PartLaws.{come_to_law}
use Rattle.chain_lines.proofs.laws.parts_are_the_bound.Goals as goal

-- where there is a bound, it is that of the steps
told : (b : Bool) (o : Option ℕ) (bound : ℕ) → (if b then o else None) ≡ Some bound → o ≡ Some bound
told true o bound is = is
told false o bound is = absurd cc

pub returns-clause-parts : goal.returns-clause-parts
returns-clause-parts c writes offsets U levels tasks bound is =
    come_to_law writes offsets (node_in U (order_of levels)) (time_in levels) tasks bound
    (told (list_all (has_response levels) tasks) _ bound is)

pub returns-clause-bound : goal.returns-clause-bound
returns-clause-bound c writes offsets U levels first others bound is =
    let node : Node = node_in U (order_of levels) in
    let by : bound_by (steps_of writes offsets node (time_in levels) (first ∷ others)) ≡ Some bound =
    told (list_all (has_response levels) (first ∷ others)) _ bound is in (
      λ none. same_Some bound (bound_of writes node (time_in levels) first others)
          (sym (subst (λ (os : List ℕ). bound_by (steps_of writes os node (time_in levels) (first ∷ others)) ≡ Some bound) none by)
          ∙ steady_bound_law writes node (time_in levels) first others),
      offsets_law writes offsets node (time_in levels) first others bound by,
    )
