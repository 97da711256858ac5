-- A chain's bound by the responses of its tasks alone, in an order that passes.
use Rattle.std.proofs.Common.{◌≡◌, ◌↔◌, ℕ, ◌<◌, ◌≤◌, true, false, List}
use Rattle.std.proofs.Common.{length, All, Some, None, cond, sym, ◌∙◌}
use Rattle.std.proofs.Common.{ap, subst, arith}
use Rattle.std.specs.Prelude.{IsTrue, nat_le}
use Rattle.std.specs.List.{list_all}
use Rattle.std.proofs.lemmas.Bool.{le-leb, leb-true}
use Rattle.std.proofs.lemmas.List.{get_or_past}
use Rattle.std.proofs.lemmas.List.Elements.{All-from_recursion}
use Rattle.task_sheet.proofs.Common.{Task, no_task, Indexes, IsPart, among, all_of, IsTaskSet}
use Rattle.task_sheet.proofs.Common.{IsPassingOrder, IsResponseOf, Passes}
use Rattle.task_sheet.proofs.IndexLaws.{IsOrderOf-among, order-below}
use Rattle.task_sheet.proofs.PassingLaws.{IsResponseOf-one}
use Rattle.ceiling_kernel.specs.Bounds.{after_of}
use Rattle.ceiling_kernel.proofs.Common.{IsNode, above_of, node_in}
use Rattle.ceiling_kernel.proofs.NodeLaws.{after_is_above, stands_above}
use Rattle.ceiling_kernel.proofs.OrderLaws.{after_of-all}
use Rattle.chains.specs.Parts.{bound_in, order_of, time_in}
use Rattle.chains.specs.Walks.{bound_by, steps_with}
use Rattle.chains.specs.declared.bounds.Level.{Level}
use Rattle.chains.specs.declared.bounds.Writes.{Writes}
use Rattle.chains.specs.declared.bounds.Writes.TheVariants.{AtFinish, AtDeadline}
use Rattle.least_chains.specs.LeastBound.{ArePassing, least_time, part_in, parts_in}
use Rattle.least_chains.proofs.AboveLaws.{after-part}
use Rattle.least_chains.proofs.PartLaws.{own-response, part-is, passing-levels, strange-part}
use Rattle.chain_limits.specs.Reaches.{IsMetIn}
use Rattle.chain_limits.proofs.MetLaws.{have-tasks}

module _ (U : List Task) (order : List ℕ) (set : IsTaskSet U) (passing : IsPassingOrder U order) where
  abbrev above : ℕ → Indexes
  above i = among (after_of order i)

  -- who stands above a task is a task of the set
  pub above-few : (i : ℕ) → All (λ k. k < 32) (after_of order i)
  above-few i =
      let all = All-from_recursion (λ k. k < length U) order
      (order-below (length U) (all_of U) order passing.each_once (λ k h. h)) in
      after_of-all (λ k. k < 32) order i (λ k d lt. omega (arith, all k d lt, set.few))

  pub above-part : (i : ℕ) → IsPart (above i) (all_of U)
  above-part i k h =
      sym (ap (λ (X : Indexes). X k) (IsOrderOf-among (all_of U) order passing.each_once))
      ∙ after-part order i k h

  pub above-passes : (i : ℕ) → i < length U → Passes U i (above i)
  above-passes i within =
      let node = node_in U order in
      let is : IsNode node = record { tasks = set; order = passing.each_once } in
      let same : above_of node i ≡ above i = λ x h. sym (after_is_above node is i h within) x in
      (subst (λ X. Passes U i X) same (stands_above node is passing.each_stands i within).0)

  module _ (levels : List Level) (are : ArePassing U levels) (same : order_of levels ≡ order) where
    pub part-told : (i : ℕ) (r : ℕ) (others : List ℕ) → i < length U → IsResponseOf U i (above i) r
        → least_time U i (above i) r others ≡ part_in AtFinish U levels i others
    part-told i r others within response =
        let own : IsResponseOf U i (above i) (time_in levels i) =
        subst (λ o. IsResponseOf U i (among (after_of o i)) (time_in levels i)) same
        (own-response U set levels are i within) in
        let is : part_in AtFinish U levels i others ≡ least_time U i (above i) (time_in levels i) others =
        subst (λ o. part_in AtFinish U levels i others ≡ least_time U i (among (after_of o i)) (time_in levels i) others)
        same (part-is U set levels are i within others) in
        ap (λ t. least_time U i (above i) t others)
        (IsResponseOf-one U i (above i) r (time_in levels i) response own) ∙ sym is

-- ---- part by part
module _ (writes : Writes) (U : List Task) where
  -- one that is no task of the set has none
  pub part-strange : IsTaskSet U → (i : ℕ) (others : List ℕ) → length U ≤ i → (levels : List Level)
      → ArePassing U levels → 0 ≡ part_in writes U levels i others
  part-strange set i others past levels are = by writes
    where
      by : (writes : Writes) → 0 ≡ part_in writes U levels i others
      by AtFinish = sym (strange-part U set levels are i others past)
      by AtDeadline = ap (λ (t : Task). t.deadline) (sym (get_or_past U i no_task past))

  -- a chain of which one is none has no bound
  pub bound-strange : (offsets tasks : List ℕ) → list_all (all_of U) tasks ≡ false → (levels : List Level)
      → ArePassing U levels → None ≡ bound_in writes offsets U levels tasks
  bound-strange offsets tasks out levels are =
      sym (ap (λ b. cond b (bound_by (steps_with U offsets (parts_in writes U levels tasks) tasks)) None)
      (ap (λ f. list_all f tasks) (have-tasks U levels are) ∙ out))

  -- that of the others is what the parts come to
  pub bound-told : (order offsets tasks parts : List ℕ) → list_all (all_of U) tasks ≡ true
      → ((levels : List Level) → ArePassing U levels → order_of levels ≡ order
      → parts ≡ parts_in writes U levels tasks)
      → (levels : List Level) → ArePassing U levels → order_of levels ≡ order
      → bound_by (steps_with U offsets parts tasks) ≡ bound_in writes offsets U levels tasks
  bound-told order offsets tasks parts all is levels are same =
      ap (λ ps. bound_by (steps_with U offsets ps tasks)) (is levels are same)
      ∙ sym (ap (λ b. cond b (bound_by (steps_with U offsets (parts_in writes U levels tasks) tasks)) None)
      (ap (λ f. list_all f tasks) (have-tasks U levels are) ∙ all))

-- ---- within a limit
same-some : (a b : ℕ) → Some a ≡ Some b → a ≡ b
same-some a b is = cc

pub met-told : (writes : Writes) (offsets : List ℕ) (U : List Task) (order tasks : List ℕ) (limit bound : ℕ) → IsTaskSet U
    → IsPassingOrder U order
    → ((levels : List Level) → ArePassing U levels → order_of levels ≡ order
    → Some bound ≡ bound_in writes offsets U levels tasks)
    → IsTrue (nat_le bound limit) ↔ IsMetIn writes offsets order tasks limit U
met-told writes offsets U order tasks limit bound set passing is = (
  λ so.
      let (levels, same, are) = passing-levels U set order passing in
      record {
        levels = levels;
        passing = are;
        same = same;
        bound = bound;
        comes = sym (is levels are same);
        within = leb-true bound limit so;
      },
  λ met. le-leb bound limit (omega (
    arith,
    same-some bound met.bound (is met.levels met.passing met.same ∙ met.comes),
    met.within,
  )),
)
