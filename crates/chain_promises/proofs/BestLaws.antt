-- The best order's responses are the analysis's.
use Rattle.std.proofs.Common.{◌≡◌, ℕ, ◌<◌, Bool, true, false, List, [], ◌∷◌, length, map, is_some, Some, None, unwrap_or}
use Rattle.std.proofs.Common.{refl, sym, ◌∙◌, ap, subst, arith, inl, inr, cond, true≢false}
use Rattle.std.specs.List.{AllByRecursion, list_all}
use Rattle.std.proofs.Math.Path.{fun_ext}
use Rattle.std.proofs.lemmas.Bool.{both_ways, cases_eq, cases_lt, eq-eqb, le-ltb, lt-ltb, ne_eqb}
use Rattle.std.proofs.lemmas.Option.{none-some}
use Rattle.task_sheet.proofs.Common.{Task, task_at, IsTaskSet, Indexes, IsResponseOf, past_jitter, among, all_of}
use Rattle.task_sheet.proofs.Common.{IsOrderOf}
use Rattle.task_sheet.proofs.IndexLaws.{IsOrderOf-among}
use Rattle.task_sheet.proofs.TaskLaws.{AllTasks-from_set}
use Rattle.task_sheet.proofs.PassingLaws.{IsResponseOf-one, Passes-iff_response}
use Rattle.assignment.specs.Places.{PlaceData}
use Rattle.assignment.specs.Placings.{IsBestPlacing}
use Rattle.ceiling_kernel.specs.Bounds.{after_of}
use Rattle.ceiling_kernel.proofs.Common.{Node, node_in, above_of, IsNode}
use Rattle.ceiling_kernel.proofs.NodeLaws.{after_is_above, stands_above}
use Rattle.chains.specs.Handovers.{RespondsBy}
use Rattle.chains.specs.Walks.{bound_by, starts_of, steps_with}
use Rattle.chains.specs.declared.bounds.BoundPart.{BoundPart}
use Rattle.chains.proofs.LongestLaws.{bound_some, delays_keep_starts}
use Rattle.chains.specs.Parts.{afters_of, bound_in, has_response, order_of, response_in, steps_of, time_in}
use Rattle.chains.specs.declared.bounds.Level.{Level}
use Rattle.chains.specs.declared.bounds.Writes.{Writes}
use Rattle.least_chains.specs.LeastBound.{ArePassing, levels_at}
use Rattle.least_chains.proofs.PartLaws.{none-at, own-response}
use Rattle.least_chains.proofs.BoundLaws.{best-passing}
use Rattle.chain_promises.specs.Promised.{AreResponses}

module _ (U : List Task) (set : IsTaskSet U) (levels : List Level) (are : ArePassing U levels) where
  abbrev node : Node
  node = node_in U (order_of levels)

  is_node : IsNode node
  is_node = record { tasks = set; order = are.order.each_once }

  -- a task of the set passes with its response
  of_set : (i : ℕ) → i < length U → RespondsBy node i (time_in levels i)
  of_set i within =
      let same : among (after_of (order_of levels) i) ≡ above_of node i =
      fun_ext (λ h. after_is_above node is_node i h within) in
      let s = time_in levels i in
      let response : IsResponseOf U i (above_of node i) s =
      subst (λ X. IsResponseOf U i X s) same (own-response U set levels are i within) in
      let stands = stands_above node is_node are.order.each_stands i within in
      let (r, is_r, in_time) =
      (Passes-iff_response U (AllTasks-from_set U set) i (above_of node i) within).0 stands.0 in
      let one = IsResponseOf-one U i (above_of node i) r s is_r response in
      record {
        time = past_jitter (task_at U i) s;
        passes = record {
          from_one = response.positive;
          in_time = omega (arith, one, in_time);
          enough = omega (arith, response.fixed);
        };
        response = omega (arith, response.positive);
      }

  -- no other task has one
  of_level : (i r : ℕ) → response_in levels i ≡ Some r → RespondsBy node i r
  of_level i r is = elim (cases_lt i (length U)) [
    | inl within ↦ subst (λ n. RespondsBy node i n) (ap (λ o. unwrap_or o 0) is) (of_set i within)
    | inr past ↦ absurd (none-some r (sym (none-at levels i
        (ap (λ (X : Indexes). X i) (IsOrderOf-among (all_of U) (order_of levels) are.order.each_once)
        ∙ le-ltb i (length U) past)) ∙ is))
  ]

  pub passing-respond : AreResponses U levels
  passing-respond = record { order = is_node; each = of_level }

pub best-respond : (U : List Task) (places : List PlaceData) → IsTaskSet U → IsBestPlacing U places
    → AreResponses U (levels_at places)
best-respond U places set best = passing-respond U set (levels_at places) (best-passing U places best)

-- ---- its bounds
-- each of its tasks has a response
has-one : (places : List PlaceData) (i : ℕ) → among (order_of (levels_at places)) i ≡ true
    → has_response (levels_at places) i ≡ true
has-one [] i is = absurd (both_ways false refl is)
has-one (p ∷ places) i is = elim (cases_eq p.task i) [
  | inl own ↦ (let so = eq-eqb p.task i own in rw so refl)
  | inr ne ↦ (let so = ne_eqb p.task i ne in rw so (has-one places i (rw so at is)))
]

have-all : (U : List Task) (places : List PlaceData) → IsOrderOf (all_of U) (order_of (levels_at places))
    → (tasks : List ℕ) → AllByRecursion (λ i. i < length U) tasks
    → list_all (has_response (levels_at places)) tasks ≡ true
have-all U places each [] known = refl
have-all U places each (i ∷ tasks) known =
    let named : among (order_of (levels_at places)) i ≡ true =
    ap (λ (X : Indexes). X i) (IsOrderOf-among (all_of U) (order_of (levels_at places)) each)
    ∙ lt-ltb i (length U) known.0 in
    rw (has-one places i named) (have-all U places each tasks known.1)

-- so a chain of tasks of the set has a bound, where walks along it begin
pub best-number : (writes : Writes) (offsets : List ℕ) (U : List Task) (places : List PlaceData)
    (tasks : List ℕ) → IsBestPlacing U places → AllByRecursion (λ i. i < length U) tasks
    → bound_in writes offsets U (levels_at places) tasks
    ≡ bound_by (steps_of writes offsets (node_in U (order_of (levels_at places))) (time_in (levels_at places)) tasks)
best-number writes offsets U places tasks best known =
    rw (have-all U places (best-passing U places best).order.each_once tasks known) refl

pub best-begins : (writes : Writes) (offsets : List ℕ) (node : Node) (response : ℕ → ℕ) (tasks : List ℕ)
    → is_some (starts_of (steps_with node.tasks offsets [] tasks)) ≡ true
    → is_some (bound_by (steps_of writes offsets node response tasks)) ≡ true
best-begins writes offsets node response tasks begins =
    let steps = steps_of writes offsets node response tasks in
    let same = delays_keep_starts node.tasks offsets
    (map (λ (p : BoundPart). p.time) (afters_of writes node response tasks)) [] tasks in
    ap is_some (bound_some steps (ap is_some same ∙ begins)).1
