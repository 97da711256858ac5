-- To ask less makes no response greater, and a lesser cost makes each less that counts it, by as much.
use Rattle.std.proofs.Common.{◌≡◌, ℕ, ◌+◌, ◌-◌, ◌*◌, ◌<◌, ◌≤◌, inl, inr, cond, true, List, length}
use Rattle.std.proofs.Common.{sym, subst, arith}
use Rattle.std.proofs.Math.Nat.{mul-le-mul}
use Rattle.std.proofs.lemmas.Bool.{cases_Bool}
use Rattle.task_sheet.proofs.Common.{Task, AllTasks, no_task, task_at, Indexes, interference_of}
use Rattle.task_sheet.proofs.Common.{releases_within, demand_of, past_jitter, IsResponseOf, IsTaskSet}
use Rattle.task_sheet.proofs.Releases.{cost-le-interference}
use Rattle.task_sheet.proofs.TaskLaws.{AllTasks-from_set}
use Rattle.task_sheet.proofs.DemandLaws.{demand-mono, demand_does_not_fall}
use Rattle.task_sheet.proofs.ResponseLaws.{Covers-iff_response, IsResponse-one}
use Rattle.other_numbers.specs.Easier.{AreEasier}
use Rattle.other_numbers.proofs.EasierLaws.{kept-le, blocking-easier, demand-easier}
use Rattle.other_numbers.proofs.EasierLaws.{interference-easier, interrupts-easier}
use Rattle.limits.proofs.NodeLaws.{sum_below-own}

-- a product of which both are less
product-apart : (n m c d : ℕ) → n ≤ m → 1 ≤ m → n * c + d ≤ m * (c + d)
product-apart n m c d le some =
    let here : n * c ≤ m * c = mul-le-mul le (omega arith) in
    let there : 1 * d ≤ m * d = mul-le-mul some (omega arith) in
    let whole : m * (c + d) ≡ m * c + m * d = grind arith in
    omega (arith, here, there, whole)

module _ (V U : List Task) (set_V : IsTaskSet V) (set_U : IsTaskSet U) (easy : AreEasier V U) where
  valid_V : AllTasks V
  valid_V = AllTasks-from_set V set_V

  valid_U : AllTasks U
  valid_U = AllTasks-from_set U set_U

  -- by how much less a task executes
  abbrev pub spared : ℕ → ℕ
  spared c = (task_at U c).cost - (task_at V c).cost

  released : (c t : ℕ) → c < length U → 1 ≤ t → 1 ≤ releases_within (task_at U c) t
  released c t within from = omega (
    arith,
    cost-le-interference (record (task_at U c) { cost = 1 }) t (valid_U c no_task within).period from,
  )

  interference-apart : (c t : ℕ) → c < length U → 1 ≤ t
      → interference_of (task_at V c) t + spared c ≤ interference_of (task_at U c) t
  interference-apart c t within from =
      let whole : (task_at U c).cost ≡ (task_at V c).cost + spared c =
      omega (arith, (easy.each c).cost) in
      subst (λ w. releases_within (task_at V c) t * (task_at V c).cost + spared c
      ≤ releases_within (task_at U c) t * w) (sym whole)
      (product-apart (releases_within (task_at V c) t) (releases_within (task_at U c) t)
      (task_at V c).cost (spared c) ((easy.each c).rarer t)
      (released c t within from))

  -- what a task above spares each demand spares
  pub demand-apart : (i c : ℕ) (H : Indexes) (t : ℕ) → c < length U → H c ≡ true → 1 ≤ t
      → demand_of V i H t + spared c ≤ demand_of U i H t
  unfolding demand_of
  demand-apart i c H t within is from =
      let f : ℕ → ℕ = λ k. cond (H k) (interference_of (task_at V k) t) 0 in
      let g : ℕ → ℕ = λ k. cond (H k) (interference_of (task_at U k) t) 0 in
      let own : spared c + f c ≤ 0 + g c = rw is (omega (arith, interference-apart c t within from)) in
      let terms = sum_below-own (length U) f g c (spared c) 0 within (λ k lt other. elim (cases_Bool (H k)) [
        | inl so ↦ rw so (mul-le-mul ((easy.each k).rarer t) (easy.each k).cost)
        | inr so ↦ rw so (omega arith)
      ]) own in
      rw easy.count (omega (
        arith,
        terms,
        blocking-easier ◌≤◌ kept-le V U easy i H,
        (easy.each i).cost,
        interrupts-easier ◌≤◌ kept-le V U easy t,
      ))

  -- what the task itself spares, too
  pub demand-own : (i : ℕ) (H : Indexes) (t : ℕ) → demand_of V i H t + spared i ≤ demand_of U i H t
  unfolding demand_of
  demand-own i H t = omega (
    arith,
    (easy.each i).cost,
    blocking-easier ◌≤◌ kept-le V U easy i H,
    interference-easier ◌≤◌ kept-le V U easy H t,
    interrupts-easier ◌≤◌ kept-le V U easy t,
  )

  -- a response is less by what each demand is less
  response-less : (i : ℕ) (H : Indexes) (d r s : ℕ) → i < length U → IsResponseOf V i H r
      → IsResponseOf U i H s
      → ((t : ℕ) → 1 ≤ t → demand_of V i H t + d ≤ demand_of U i H t) → r + d ≤ s
  response-less i H d r s within first second less =
      let inside : i < length V = omega (arith, within, easy.count) in
      let falls = demand_does_not_fall V valid_V i H inside in
      let w = past_jitter (task_at U i) s in
      let here : demand_of V i H w + d ≤ w = omega (arith, less w second.positive, second.fixed) in
      let some : 1 ≤ demand_of V i H w = falls.positive w in
      let covered : demand_of V i H (w - d) ≤ w - d =
      omega (arith, demand-mono V valid_V i H (w - d) w (omega arith), here) in
      let (u, is, le) = (Covers-iff_response (demand_of V i H) falls (w - d)).0
      (w - d, omega (arith, here, some), omega arith, covered) in
      omega (
        arith,
        IsResponse-one (demand_of V i H) (past_jitter (task_at V i) r) u first is,
        le,
        first.positive,
        second.positive,
        (easy.each i).jitter,
        here,
        some,
      )

  -- so none is greater
  pub response-no_more : (i : ℕ) (H : Indexes) (r s : ℕ) → i < length U → IsResponseOf V i H r
      → IsResponseOf U i H s → r ≤ s
  response-no_more i H r s within first second = omega (
    arith,
    response-less i H 0 r s within first second
        (λ t from. omega (arith, demand-easier ◌≤◌ kept-le V U easy i H t)),
  )

  -- nor is what it leaves past the cost of one above, or its own
  pub left-no_more : (i c : ℕ) (H : Indexes) (r s : ℕ) → i < length U → IsResponseOf V i H r
      → IsResponseOf U i H s
      → ((t : ℕ) → 1 ≤ t → demand_of V i H t + spared c ≤ demand_of U i H t)
      → r - (task_at V c).cost ≤ s - (task_at U c).cost
  left-no_more i c H r s within first second less = omega (
    arith,
    response-less i H (spared c) r s within first second less,
    (easy.each c).cost,
  )
