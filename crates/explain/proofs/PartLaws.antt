-- The parts of a demand add up.
use Rattle.std.proofs.Common.{◌≡◌, ℕ, zero, suc, ◌+◌, cond, List, [], ◌∷◌}
use Rattle.std.proofs.Common.{length, map, sum_by, Option, Some, None, refl, sym, ◌∙◌, ap, arith}
use Rattle.std.proofs.lemmas.Bool.{ltb-true}
use Rattle.std.proofs.lemmas.List.Sums.{sum_by-append, sum_by-cons}
use Rattle.task_sheet.proofs.Common.{Task, task_at, Indexes, IsPart, below, no_index, without_index}
use Rattle.task_sheet.proofs.Common.{sum_below, interference_of, interference_within}
use Rattle.task_sheet.proofs.Common.{interrupt_within, interrupts_of, interrupts_within}
use Rattle.task_sheet.proofs.Common.{blocking_of, demand_of, past_jitter, IsResponseOf, all_of}
use Rattle.task_sheet.proofs.Common.{IsOrderOf}
use Rattle.task_sheet.proofs.IndexLaws.{sum-without, without-part_of}
use Rattle.task_sheet.proofs.IndexLaws.{IsOrderOf-among, IsOrderOf-head, IsOrderOf-rest}
use Rattle.task_sheet.proofs.PassingLaws.{IsResponseOf-iff}
use Rattle.explain.specs.Parts.{AboveData, PartsData, IsPartsOf, above_at, all_interrupts}
use Rattle.explain.specs.Parts.{interruption_at, timer_within, timers_within, total_of}
use Rattle.explain.specs.Blocking.{BlockerData, IsBlockerOf, blocked_by}
use Rattle.explain.specs.declared.parts.Interruption.{Interruption}

module _ (f : ℕ → ℕ) where
  abbrev part_of : Indexes → ℕ → ℕ
  part_of L h = cond (L h) (f h) 0

  sum-none : (n : ℕ) → sum_below n (part_of no_index) ≡ 0
  sum-none zero = refl
  sum-none (suc n) = omega (arith, sum-none n)

  -- the parts of an order's tasks
  pub sum-order : (n : ℕ) (L : Indexes) (order : List ℕ) → IsOrderOf L order → IsPart L (below n)
      → sum_by f order ≡ sum_below n (part_of L)
  sum-order n L [] each part = sym (ap (λ (X : Indexes). sum_below n (part_of X))
      (sym (IsOrderOf-among L [] each)) ∙ sum-none n)
  sum-order n L (i ∷ above) each part =
      let member = IsOrderOf-head L i above each in
      let rest = sum-order n (without_index L i) above (IsOrderOf-rest L i above each)
      (without-part_of n L i part) in
      rw (sum_by-cons f i above)
      (omega (arith, rest, sum-without n f L i (ltb-true i n (part i member)) member))

-- the first of what is summed, and the rest
sum_first : (n : ℕ) (f : ℕ → ℕ) → sum_below (suc n) f ≡ f 0 + sum_below n (λ k. f (suc k))
sum_first zero f = omega arith
sum_first (suc n) f = omega (arith, sum_first n f)

sum_map : {A B : Type 0} (g : B → ℕ) (f : A → B) (xs : List A)
    → sum_by g (map f xs) ≡ sum_by (λ x. g (f x)) xs
sum_map g f [] = refl
sum_map g f (x ∷ xs) =
    rw (sum_by-cons g (f x) (map f xs), sum_by-cons (λ x. g (f x)) x xs, sum_map g f xs) refl

-- ---- timers and interrupts
-- what is summed over the tasks of a set, by their indexes
sum_tasks : (f : Task → ℕ) (U : List Task)
    → sum_below (length U) (λ k. f (task_at U k)) ≡ sum_by f U
sum_tasks f [] = refl
sum_tasks f (t ∷ U) =
    rw (sum_by-cons f t U, sym (sum_tasks f U)) (sum_first (length U) (λ k. f (task_at (t ∷ U) k)))

-- those of a task, and those of the rest
interrupted_sum : (time : ℕ) (U : List Task) → timers_within U time + sum_by (interrupt_within time)
    (all_interrupts U) ≡ sum_by (interrupts_of time) U
interrupted_sum time [] = refl
interrupted_sum time (t ∷ U) =
    omega (
      arith,
      sum_by-cons (timer_within time) t U,
      sum_by-append (interrupt_within time) t.interrupts (all_interrupts U),
      sum_by-cons (interrupts_of time) t U,
      interrupted_sum time U,
    )

interrupts-parts : (U : List Task) (time : ℕ)
    → timers_within U time + sum_by (λ (x : Interruption). x.time)
    (map (interruption_at time) (all_interrupts U)) ≡ interrupts_within U time
unfolding interrupts_within
interrupts-parts U time =
    omega (
      arith,
      sum_map (λ (x : Interruption). x.time) (interruption_at time) (all_interrupts U),
      interrupted_sum time U,
      sum_tasks (interrupts_of time) U,
    )

blocked_is : (U : List Task) (i : ℕ) (H : Indexes) (b : Option BlockerData) → IsBlockerOf U i H b
    → blocked_by b ≡ blocking_of U i H
blocked_is U i H None none = sym none
blocked_is U i H (Some b) first = first.longest

pub parts-demand : (U : List Task) (i : ℕ) (H : Indexes) (order : List ℕ) (time : ℕ)
    (parts : PartsData) → IsPartsOf U i H order time parts → IsOrderOf H order → IsPart H (all_of U)
    → total_of parts ≡ demand_of U i H time + (task_at U i).jitter
unfolding demand_of
parts-demand U i H order time parts is each part =
    let above : sum_by (λ (a : AboveData). a.time) parts.above ≡ interference_within U H time =
    ap (λ (xs : List AboveData). sum_by (λ (a : AboveData). a.time) xs) is.above
    ∙ sum_map (λ (a : AboveData). a.time) (above_at U time) order
    ∙ sum-order (λ h. interference_of (task_at U h) time) (length U) H order each part in
    let interrupts : sum_by (λ (x : Interruption). x.time) parts.interrupts
    ≡ sum_by (λ (x : Interruption). x.time) (map (interruption_at time) (all_interrupts U)) =
    ap (λ (xs : List Interruption). sum_by (λ (x : Interruption). x.time) xs) is.interrupts in
    omega (
      arith,
      is.cost,
      is.jitter,
      blocked_is U i H parts.blocker is.blocker,
      above,
      is.timers,
      interrupts,
      interrupts-parts U time,
    )

pub parts-response : (U : List Task) (i : ℕ) (H : Indexes) (order : List ℕ) (response : ℕ)
    (parts : PartsData) → IsResponseOf U i H response
    → IsPartsOf U i H order (past_jitter (task_at U i) response) parts
    → IsOrderOf H order → IsPart H (all_of U) → total_of parts ≡ response
parts-response U i H order response parts right is each part =
    let found = (IsResponseOf-iff U i H response).0 right in
    omega (
      arith,
      parts-demand U i H order (past_jitter (task_at U i) response) parts is each part,
      right.fixed,
      right.positive,
      found.2,
    )
