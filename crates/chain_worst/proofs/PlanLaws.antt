-- A chain that has a bound: its tasks have responses, and are of the set.
use Rattle.std.proofs.Common.{◌≡◌, ℕ, suc, ◌<◌, inl, inr, true, false, Bool, if◌then◌else◌}
use Rattle.std.proofs.Common.{List, [], ◌∷◌, length, All, Option, Some, None, refl, sym, ◌∙◌, ap, arith}
use Rattle.std.specs.Prelude.{is_some}
use Rattle.std.specs.List.{list_all}
use Rattle.std.proofs.lemmas.Bool.{cases_eq, ne_eqb, true≢false}
use Rattle.std.proofs.lemmas.List.Sums.{AllPass-from_list_all}
use Rattle.std.proofs.lemmas.Option.{none-some}
use Rattle.task_sheet.proofs.Common.{Task, IsOrder}
use Rattle.ceiling_kernel.proofs.OrderLaws.{order_iff}
use Rattle.chains.specs.Parts.{bound_in, has_response, order_of, response_in}
use Rattle.chains.specs.declared.bounds.Level.{Level}
use Rattle.chains.specs.declared.bounds.Writes.{Writes}

-- an order is of the set's tasks
pub in_order : (U : List Task) (order : List ℕ) → IsOrder U order → All (λ k. k < length U) order
in_order U order each = ((order_iff (length U) order).1 each).0

-- a task that has a response has a level
of_level : (n : ℕ) (levels : List Level) (i : ℕ) → All (λ k. k < n) (order_of levels)
    → has_response levels i ≡ true → i < n
of_level n [] i all has = absurd (true≢false (sym has))
of_level n (l ∷ levels) i all has = elim (cases_eq l.task i) [
  | inl same ↦ omega (arith, same, all 0 0 (omega arith))
  | inr other ↦
      of_level n levels i (λ k d lt. all (suc k) d (omega (arith, lt)))
      (sym (ap (λ b. is_some (if b then l.response else response_in levels i)) (ne_eqb l.task i other)) ∙ has)
]

-- so the tasks of a chain have
of_levels : (n : ℕ) (levels : List Level) (tasks : List ℕ) → All (λ k. k < n) (order_of levels)
    → list_all (has_response levels) tasks ≡ true → All (λ k. k < n) tasks
of_levels n levels tasks all has k d lt =
    of_level n levels _ all (AllPass-from_list_all (has_response levels) tasks has k d lt)

pub tasks_within : (U : List Task) (levels : List Level) (tasks : List ℕ) → IsOrder U (order_of levels)
    → list_all (has_response levels) tasks ≡ true → All (λ k. k < length U) tasks
tasks_within U levels tasks order = of_levels (length U) levels tasks (in_order U (order_of levels) order)

-- those of a chain that has a bound do
has_bound : (b : Bool) (o : Option ℕ) (bound : ℕ) → (if b then o else None) ≡ Some bound → b ≡ true
has_bound true o bound is = refl
has_bound false o bound is = absurd (none-some bound is)

pub responses_of : (writes : Writes) (offsets : List ℕ) (U : List Task) (levels : List Level) (tasks : List ℕ) (bound : ℕ)
    → bound_in writes offsets U levels tasks ≡ Some bound → list_all (has_response levels) tasks ≡ true
responses_of writes offsets U levels tasks bound = has_bound (list_all (has_response levels) tasks) _ bound
