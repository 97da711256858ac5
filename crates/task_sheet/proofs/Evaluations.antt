-- How many numbers a walk has.
use Rattle.std.proofs.Common.{◌≡◌, ℕ, zero, suc, ◌+◌, ◌-◌, ◌*◌, ◌<◌, ◌≤◌, inl, inr, cond, List}
use Rattle.std.proofs.Common.{add_assoc, [], ◌∷◌, length, sum_by, nat_lt, refl, sym, ◌∙◌, ap, arith}
use Rattle.std.proofs.lemmas.Bool.Decides.{nat_tests}
use Rattle.std.proofs.lemmas.List.Sums.{sum_by-cons}
use Rattle.std.proofs.lemmas.Bool.{cases_Bool, cases_eq, cases_lt, or_parts}
use Rattle.task_sheet.specs.declared.node.Interrupt.{Interrupt}
use Rattle.task_sheet.specs.Sheet.{Task, AllTasks, no_task, task_at}
use Rattle.task_sheet.specs.Indexes.{Indexes, sum_below}
use Rattle.task_sheet.specs.Responses.{iterate}
use Rattle.task_sheet.specs.Demand.{demand_of, jobs_within, releases_within, interrupt_within}
use Rattle.task_sheet.specs.Demand.{interrupts_of, interrupts_within, counts, later_releases}
use Rattle.task_sheet.specs.Demand.{later_interrupts, evaluation_bound}
use Rattle.task_sheet.proofs.Below.{sum_below-le, sum_below-both}
use Rattle.task_sheet.proofs.Releases.{div_ceil-mono, releases-mono}
use Rattle.task_sheet.proofs.Exchange.{term}

-- a count rises, or it stays, and what goes with it
data Rises : ℕ → ℕ → ℕ → ℕ → Type 0 where
  more : {a b p q : ℕ} → a < b → Rises a b p q
  same : {a b p q : ℕ} → a ≡ b → p ≡ q → Rises a b p q

rises-le : {a b p q : ℕ} → Rises a b p q → a ≤ b
rises-le (more lt) = omega arith
rises-le (same e f) = omega arith

rises-more : {a b p q : ℕ} → Rises a b p q → p < q → a < b
rises-more (more lt) up = lt
rises-more (same e f) up = absurd (omega arith)

rises-both : {a b p q c d r s : ℕ} → Rises a b p q → Rises c d r s
    → Rises (a + c) (b + d) (p + r) (q + s)
rises-both (more lt) (more lt') = more (omega arith)
rises-both (more lt) (same e f) = more (omega arith)
rises-both (same e f) (more lt) = more (omega arith)
rises-both (same e f) (same e' f') = same (omega arith) (omega arith)

sum_below-rises : (n : ℕ) (f g p q : ℕ → ℕ)
    → ((k : ℕ) → k < n → Rises (f k) (g k) (p k) (q k))
    → Rises (sum_below n f) (sum_below n g) (sum_below n p) (sum_below n q)
sum_below-rises zero f g p q each = same refl refl
sum_below-rises (suc n) f g p q each = rises-both
    (sum_below-rises n f g p q (λ k lt. each k (omega arith))) (each n (omega arith))

-- how often a task is released that counts, and an interrupt comes, after the first tick
abbrev later : List Task → ℕ → Indexes → ℕ → ℕ
later U t H k = cond (counts U H k) (later_releases t (task_at U k)) 0 + sum_by (later_interrupts t)
    (task_at U k).interrupts

-- what comes later than at first comes more often, or it takes as much
count-later : (takes : ℕ → ℕ) (first a b : ℕ) → first ≤ a → a ≤ b
    → Rises (a - first) (b - first) (takes a) (takes b)
count-later takes first a b early le = elim (cases_eq a b) [
  | inl e ↦ same (ap (λ n. n - first) e) (ap takes e)
  | inr ne ↦ more (omega arith)
]

-- of an interrupt: it comes no less often in a longer window, and where it comes as often it takes as much
interrupt-later : (x : Interrupt) (t s : ℕ) → 1 ≤ t → t ≤ s
    → Rises (later_interrupts t x) (later_interrupts s x) (interrupt_within t x)
    (interrupt_within s x)
interrupt-later x t s pos le =
    let jobs = jobs_within x.period 0 in
    count-later (λ n. n * x.cost) (jobs 1) (jobs t) (jobs s)
    (div_ceil-mono (1 + 0) (t + 0) x.period (omega arith))
    (div_ceil-mono (t + 0) (s + 0) x.period (omega arith))

interrupts-later : (xs : List Interrupt) (t s : ℕ) → 1 ≤ t → t ≤ s
    → Rises (sum_by (later_interrupts t) xs) (sum_by (later_interrupts s) xs)
    (sum_by (interrupt_within t) xs) (sum_by (interrupt_within s) xs)
interrupts-later [] t s pos le = same refl refl
interrupts-later (x ∷ xs) t s pos le =
    rw (
      sum_by-cons (later_interrupts t) x xs,
      sum_by-cons (later_interrupts s) x xs,
      sum_by-cons (interrupt_within t) x xs,
      sum_by-cons (interrupt_within s) x xs,
    ) (rises-both (interrupt-later x t s pos le) (interrupts-later xs t s pos le))

module _ (U : List Task) (valid : AllTasks U) (i : ℕ) (H : Indexes) where
  -- what a task takes of whoever executes below it, and of all
  abbrev takes : ℕ → ℕ → ℕ
  takes t k = term U t H k + interrupts_of t (task_at U k)

  -- of a task: it is released no less often in a longer window, and where it is as often it takes as much
  releases-later : (t s k : ℕ) → 1 ≤ t → t ≤ s → k < length U
      → Rises (cond (counts U H k) (later_releases t (task_at U k)) 0)
      (cond (counts U H k) (later_releases s (task_at U k)) 0)
      (term U t H k + releases_within (task_at U k) t * (task_at U k).node.release)
      (term U s H k + releases_within (task_at U k) s * (task_at U k).node.release)
  releases-later t s k pos le lt =
      let x = task_at U k in
      let task = valid k no_task lt in
      elim (cases_Bool (counts U H k)) [
        | inl so ↦ rw so (count-later (λ n. cond (H k) (n * x.cost) 0 + n * x.node.release)
            (releases_within x 1) (releases_within x t) (releases_within x s)
            (releases-mono x 1 t task pos) (releases-mono x t s task le))
        | inr out ↦
            let apart = or_parts (H k) (nat_lt 0 x.node.release) out in
            let none : x.node.release ≡ 0 = grind (arith, nat_tests, apart.1) in
            let nothing : (n : ℕ) → 0 + n * 0 ≡ 0 = λ n. omega arith in
            rw (out, apart.0, none)
            (same refl (nothing (releases_within x t) ∙ sym (nothing (releases_within x s))))
      ]

  -- with the interrupts on its account
  task-later : (t s k : ℕ) → 1 ≤ t → t ≤ s → k < length U
      → Rises (later U t H k) (later U s H k) (takes t k) (takes s k)
  task-later t s k pos le lt = rw (← add_assoc, ← add_assoc) (rises-both
      (releases-later t s k pos le lt) (interrupts-later (task_at U k).interrupts t s pos le))

  -- where the demand rises, some task is released once more, or an interrupt comes once more
  later-rises : (t s : ℕ) → 1 ≤ t → t ≤ s → demand_of U i H t < demand_of U i H s
      → sum_below (length U) (later U t H) < sum_below (length U) (later U s H)
  unfolding demand_of interrupts_within
  later-rises t s pos le up = rises-more
      (sum_below-rises (length U) (later U t H) (later U s H) (takes t) (takes s)
      (λ k lt. task-later t s k pos le lt))
      (omega (
        arith,
        up,
        sum_below-both (length U) (term U t H) (λ k. interrupts_of t (task_at U k)),
        sum_below-both (length U) (term U s H) (λ k. interrupts_of s (task_at U k)),
      ))

  -- the first n iterates, which rise within the limit
  module _ (limit n : ℕ)
      (rises : (k : ℕ) → k + 1 < n
      → iterate (demand_of U i H) k < iterate (demand_of U i H) (suc k))
      (within : (k : ℕ) → k < n → iterate (demand_of U i H) k ≤ limit) where
    positive : (k : ℕ) → k < n → 1 ≤ iterate (demand_of U i H) k
    positive zero lt = omega arith
    positive (suc k) lt = omega (arith, rises k (omega arith))

    walk-later : (k : ℕ) → k + 1 < n
        → k ≤ sum_below (length U) (later U (iterate (demand_of U i H) k) H)
    walk-later zero lt = omega arith
    walk-later (suc k) lt = omega (
      arith,
      walk-later k (omega arith),
      later-rises _ _ (positive k (omega arith)) (omega (arith, rises k (omega arith)))
          (rises (suc k) (omega arith)),
    )

    pub walk-short : n ≤ evaluation_bound U H limit
    walk-short = elim (cases_lt 1 n) [
      | inl long ↦
          let k = n - 2 in
          let t = iterate (demand_of U i H) k in omega (
            arith,
            walk-later k (omega arith),
            sum_below-le (length U) (later U t H) (later U limit H) (λ j lt. rises-le
                (task-later t limit j (positive k (omega arith)) (within k (omega arith)) lt)),
          )
      | inr short ↦ omega arith
    ]
