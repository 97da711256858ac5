-- The demand of a padded set is that of the rule.
use Rattle.std.proofs.Common.{◌≡◌, ℕ, zero, suc, ◌+◌, ◌-◌, ◌*◌, ◌<◌, ◌≤◌, cond, inl, inr, List, []}
use Rattle.std.proofs.Common.{◌∷◌, length, sum_by, refl, ◌∙◌, ap, arith}
use Rattle.std.specs.Int.{div_ceil}
use Rattle.std.proofs.lemmas.Grind.{common_steps}
use Rattle.std.proofs.lemmas.Bool.{cases_Bool, eq-eqb, ne_eqb}
use Rattle.std.proofs.Math.Nat.{mul-zero}
use Rattle.task_sheet.specs.declared.node.Node.{Node}
use Rattle.task_sheet.specs.declared.node.Interrupt.{Interrupt}
use Rattle.task_sheet.proofs.Common.{Task, no_task, task_at, Indexes, sum_below, releases_within}
use Rattle.task_sheet.proofs.Common.{interrupt_within, interference_of, interrupts_of}
use Rattle.task_sheet.proofs.Common.{interrupts_within, demand_of}
use Rattle.task_sheet.proofs.Below.{sum_below-both, sum_below-fits, sum_below-one}
use Rattle.task_sheet.proofs.TaskLaws.{valid_at}
use Rattle.overheads.specs.Padding.{padded_cost, whole_cost, padded_task, padded, charged}
use Rattle.overheads.specs.Rule.{taken_of, demand_by_rule, IsRuled}
use Rattle.overheads.proofs.PaddedSets.{count-padded, padded-at}
use Rattle.overheads.proofs.ChargedSets.{count-charged}

-- the interrupts on the account of a task, by its index
abbrev account : List Interrupt → ℕ → List Interrupt
account xs zero = xs
account xs (suc k) = []

bare-task : (t : Task) → t.interrupts ≡ [] → t ≡ record t { interrupts = [] }
bare-task t bare = λ i. record t { interrupts = bare i }

charged-at : (W : List Task) (xs : List Interrupt) (k : ℕ) → k < length W
    → ((j : ℕ) → j < length W → (task_at W j).interrupts ≡ [])
    → task_at (charged xs W) k ≡ record (task_at W k) { interrupts = account xs k }
charged-at W [] zero lt bare = bare-task (task_at W zero) (bare zero lt)
charged-at W [] (suc k) lt bare = bare-task (task_at W (suc k)) (bare (suc k) lt)
charged-at [] (x ∷ xs) k lt bare = absurd (omega (arith, lt))
charged-at (w ∷ ws) (x ∷ xs) zero lt bare = refl
charged-at (w ∷ ws) (x ∷ xs) (suc k) lt bare = bare-task (task_at ws k) (bare (suc k) lt)

once : (time jitter deadline period : ℕ) → 1 ≤ time → time ≤ deadline - jitter → deadline ≤ period
    → div_ceil (time + jitter) period ≡ 1
once time jitter deadline period some within short =
    let positive : 0 < period = omega (arith, some, within, short) in
    let fits : time + jitter ≤ period = omega (arith, some, within, short) in
    let least : 1 ≤ time + jitter = omega (arith, some) in
    grind (arith, common_steps)

module _ (node : Node) (xs : List Interrupt) (U : List Task) (i : ℕ) (H : Indexes) (t : ℕ)
    (ruled : IsRuled node U i H t) where
  abbrev V : List Task
  V = charged xs (padded node U)

  abbrev pads : ℕ → Task
  pads k = padded_task node (task_at U k)

  count : length V ≡ length U
  count = count-charged (padded node U) xs ∙ count-padded node U

  bare : (j : ℕ) → j < length (padded node U) → (task_at (padded node U) j).interrupts ≡ []
  bare j lt =
      let inside : j < length U = omega (arith, lt, count-padded node U) in
      ap (λ (y : Task). y.interrupts) (padded-at node U j inside) ∙ ruled.bare j no_task inside

  task-at : (k : ℕ) → k < length U → task_at V k ≡ record (pads k) { interrupts = account xs k }
  task-at k lt =
      charged-at (padded node U) xs k (omega (arith, lt, count-padded node U)) bare
      ∙ ap (λ (y : Task). record y { interrupts = account xs k }) (padded-at node U k lt)

  -- what a task takes of a window, of those below it and of all
  abbrev takes : ℕ → ℕ
  takes k = cond (H k) (interference_of (task_at V k) t) 0 + interrupts_of t (task_at V k)

  -- the same by the rule, with the interrupts on its account
  abbrev rules : ℕ → ℕ
  rules k = releases_within (pads k) t * taken_of node U i H k

  abbrev own : ℕ → ℕ
  own k = sum_by (interrupt_within t) (account xs k)

  -- a task's cost and its timer are its whole cost
  whole : (k : ℕ) → padded_cost node (task_at U k) + node.release ≡ whole_cost node (task_at U k)
  whole k = omega (arith, ruled.part)

  spread : (jobs cost : ℕ) → jobs * (cost + node.release) ≡ jobs * cost + jobs * node.release
  spread jobs cost = grind arith

  read : (k : ℕ) → k < length U
      → takes k ≡ cond (H k) (releases_within (pads k) t * padded_cost node (task_at U k))
      0 + (releases_within (pads k) t * node.release + own k)
  read k lt =
      ap (λ (y : Task). cond (H k) (interference_of y t) 0 + interrupts_of t y) (task-at k lt)

  other : (k : ℕ) → k < length U → (k ≡ i → ⊥) → takes k ≡ rules k + own k
  other k lt ne =
      let jobs = releases_within (pads k) t in
      elim (cases_Bool (H k)) [
        | inl above ↦ rw (read k lt, above) (omega (
          arith,
          spread jobs (padded_cost node (task_at U k)),
          ap (λ n. jobs * n) (whole k),
        ))
        | inr below ↦ rw (read k lt, below, ne_eqb k i ne) (omega arith)
      ]

  itself : takes i ≡ rules i + own i + node.release
  itself =
      let jobs = releases_within (pads i) t in
      let one : jobs ≡ 1 = once t (pads i).jitter (pads i).deadline (pads i).period ruled.some
      ruled.within (valid_at U i ruled.set ruled.inside).deadline_to in
      let timer : jobs * node.release ≡ 1 * node.release = ap (λ n. n * node.release) one in
      rw (read i ruled.inside, ruled.below, eq-eqb i i refl) (omega (arith, timer, mul-zero jobs))

  -- the interrupts are on one account
  charges : sum_below (length U) own ≡ sum_by (interrupt_within t) xs
  charges =
      let none = sum_below-fits (length U) 0 (λ k. 0) (λ k lt. omega arith) in
      let first : 0 < length U = omega (arith, ruled.inside) in
      omega (
        arith,
        none,
        sum_below-one (length U) own (λ k. 0) 0 first (λ k lt ne. elsewhere k ne),
      )
    where
      elsewhere : (k : ℕ) → (k ≡ 0 → ⊥) → own k ≡ 0
      elsewhere zero ne = absurd (ne refl)
      elsewhere (suc k) ne = refl

  pub ruled-demand : demand_of V i H t ≡ demand_by_rule node xs U i H t
  unfolding demand_of interrupts_within
  ruled-demand =
      let cost : (task_at V i).cost ≡ padded_cost node (task_at U i) =
      ap (λ (y : Task). y.cost) (task-at i ruled.inside) in
      let jobs =
      ap (λ n. sum_below n (λ k. cond (H k) (interference_of (task_at V k) t) 0)) count in
      let taken = ap (λ n. sum_below n (λ k. interrupts_of t (task_at V k))) count in
      let both = sum_below-both (length U) (λ k. cond (H k) (interference_of (task_at V k) t) 0)
      (λ k. interrupts_of t (task_at V k)) in
      let all = sum_below-one (length U) takes (λ k. rules k + own k) i ruled.inside other in
      omega (
        arith,
        cost,
        jobs,
        taken,
        both,
        all,
        itself,
        sum_below-both (length U) rules own,
        charges,
        whole i,
      )
