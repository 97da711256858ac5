-- No job finds a lock taken, where sections may be nested; and none waits, where they stand one
-- after the other.
use Rattle.std.proofs.Common.{ℕ, zero, suc, ◌+◌, ◌<◌, ◌≤◌, ◌≡◌, ◌≢◌, inl, inr, refl, sym, ap, ◌∙◌}
use Rattle.std.proofs.Common.{subst, arith, true, false, ◌&&◌, List, [], ◌∷◌, length, Some, None}
use Rattle.std.proofs.lemmas.Bool.{cases_eq, cases_lt, cases_Bool, cases_order, true≢false}
use Rattle.std.proofs.lemmas.Bool.{and_parts, or_cases}
use Rattle.task_sheet.proofs.Common.{CriticalSection, names_lock}
use Rattle.ceiling_kernel.specs.Tick.{Node, Job, job_at, job_task, level_of_job, active_of}
use Rattle.ceiling_kernel.specs.Tick.{executed_before, picked, is_inside, ceiling, top_ceiling}
use Rattle.ceiling_kernel.specs.Tick.{held_ceiling}
use Rattle.ceiling_kernel.specs.Waits.{IsNode, AreLegalJobs, holds_lock, NoOverrunBy, AskAnew}
use Rattle.ceiling_kernel.specs.Waits.{NobodyFindsItTaken, NobodyWaits, OneOwner}
use Rattle.ceiling_kernel.specs.Behaviours.{AreApart, TakeTurns}
use Rattle.ceiling_kernel.proofs.NodeLaws.{IsSound, sound}
use Rattle.ceiling_kernel.proofs.BehaviourLaws.{ceiling-le_top, HasSpans, taken_apart, spans_of}
use Rattle.ceiling_kernel.proofs.BehaviourLaws.{uses_of, turns_apart}
use Rattle.ceiling_kernel.proofs.SectionLaws.{inside_true, rest_from_held, rest_after}
use Rattle.ceiling_kernel.proofs.MachineLaws.{machine, is_high, rest_at, picked_is, IsPick}
use Rattle.ceiling_kernel.proofs.MachineLaws.{pending_from, pending_parts, start_of, idle_of}
use Rattle.ceiling_kernel.proofs.MachineLaws.{own_of, other_of}
use Rattle.ceiling_kernel.proofs.LockLaws.{some_names, names_from_asks, names_from_holds}
use Rattle.ceiling_kernel.proofs.LockLaws.{holds_begins, holds_none_of, held_none_of, anew_law}
use Rattle.ceiling_kernel.proofs.Busy.{began, done_later}

-- who holds a lock holds its ceiling, and has executed
holds-ceiling : (node : Node) (ss : List CriticalSection) (e : ℕ) (r : List ℕ)
    → holds_lock ss e r ≡ true → (ceiling node r ≤ held_ceiling node ss e) × (0 < e)
holds-ceiling node [] e r h = absurd (true≢false (sym h))
holds-ceiling node (s ∷ ss) e r h =
    elim (or_cases (is_inside s e && names_lock s r) (holds_lock ss e r) h) [
      | inl here ↦
          let p = and_parts (is_inside s e) (names_lock s r) here in
          let in_ : is_inside s e ≡ true = p.0 in
          let b : (s.at < e) × (e < s.at + s.len) = inside_true s e in_ in
          let top : ceiling node r ≤ top_ceiling node s.locks = ceiling-le_top node s.locks r p.1 in
          (rw in_ (omega arith), omega arith)
      | inr later ↦ (let ih = holds-ceiling node ss e r later in (omega arith, ih.1))
    ]

module _ (node : Node) (jobs : List Job) (valid : IsSound node) (known : (j : ℕ) → j < length jobs
    → (job_at jobs j).task < length node.tasks) (spanned : (j : ℕ) → HasSpans node jobs j)
    (uses_own : (j : ℕ) (r : List ℕ) → some_names (job_at jobs j).sections r ≡ true
    → level_of_job node jobs j ≤ ceiling node r) where
  abbrev pub held : ℕ → ℕ → ℕ
  held t j = held_ceiling node (job_at jobs j).sections (executed_before node jobs t j)

  one : 0 < 1
  one = omega arith

  later : (s u j : ℕ) → s ≤ u → executed_before node jobs s j ≤ executed_before node jobs u j
  later s u j le = done_later (length jobs) (λ k. (job_at jobs k).ready) (λ k.
      (job_at jobs k).executes) (is_high node jobs 1 one spanned) (rest_at node jobs 1 one spanned)
      (executed_before node jobs) (picked node jobs) (machine node jobs 1 one spanned) s u j le

  began_of : (t j : ℕ) → 0 < executed_before node jobs t j → (j < length jobs)
      × ((job_at jobs j).ready ≤ t)
  began_of t j h = began (length jobs) (λ k. (job_at jobs k).ready) (λ k. (job_at jobs k).executes)
      (is_high node jobs 1 one spanned) (rest_at node jobs 1 one spanned)
      (executed_before node jobs) (picked node jobs) (machine node jobs 1 one spanned) t j h

  -- who holds a ceiling has begun, and isn't finished
  under_way : (t j : ℕ) → 0 < held t j → (j < length jobs) × ((job_at jobs j).ready ≤ t)
      × (executed_before node jobs t j < (job_at jobs j).executes)
  under_way t j h =
      let o : HasSpans node jobs j = spanned j in
      let apart = taken_apart (job_task node jobs j).sections 0 (job_at jobs j).executes o.spans
      o.taken in
      let up = o.above (executed_before node jobs t j) in
      let in_ = rest_after node 1 0 (job_at jobs j).executes o.spans (executed_before node jobs t j)
      apart (rest_from_held node 1 o.spans (executed_before node jobs t j) one (omega arith)) in
      let b : (j < length jobs) × ((job_at jobs j).ready ≤ t) = began_of t j in_.0 in
      (b.0, b.1, in_.1)

  -- while a job holds a ceiling, no job of a lower level holds one that reaches its level
  pub none_below : (t j k : ℕ) → level_of_job node jobs k < level_of_job node jobs j → 0 < held t j
      → level_of_job node jobs j ≤ held t k → ⊥
  none_below zero j k lower hj hk =
      let w = under_way 0 j hj in
      let o : HasSpans node jobs j = spanned j in
      let apart = taken_apart (job_task node jobs j).sections 0 (job_at jobs j).executes o.spans
      o.taken in
      let up = o.above (executed_before node jobs 0 j) in
      let in_ = rest_after node 1 0 (job_at jobs j).executes o.spans (executed_before node jobs 0 j)
      apart (rest_from_held node 1 o.spans (executed_before node jobs 0 j) one (omega arith)) in
      omega (arith, in_.0, start_of node jobs j)
  none_below (suc t) j k lower hj hk =
      elim (picked node jobs t) as (λ x. picked node jobs t ≡ x → ⊥) [
        | None ↦ λ idle. none_below t j k lower (subst (λ e. 0
            < held_ceiling node (job_at jobs j).sections e) (idle_of node jobs t j idle) hj)
            (subst (λ e. level_of_job node jobs j ≤ held_ceiling node (job_at jobs k).sections e)
            (idle_of node jobs t k idle) hk)
        | Some x ↦ λ pick.
            let is : IsPick node jobs t x = picked_is node jobs t x pick in
            elim (cases_eq k x) [
              | inl runs ↦
                  let differ : j ≢ x = λ e. (omega (
                    arith,
                    ap (level_of_job node jobs)
                        (e ∙ sym runs),
                  )) in
                  let hj' = subst (λ e. 0 < held_ceiling node (job_at jobs j).sections e)
                  (other_of node jobs t x j pick differ) hj in
                  elim (cases_lt (held t k) (level_of_job node jobs j)) [
                    | inr high ↦ none_below t j k lower hj' high
                    | inl low ↦
                        let w = under_way t j hj' in
                        let same = ap (active_of node jobs (executed_before node jobs t))
                        (sym runs) in
                        elim (is.first j w.0 (pending_from node jobs t j w.1 w.2)) [
                          | inl less ↦
                              omega arith
                          | inr tied ↦ omega (arith, tied.0)
                        ]
                  ]
              | inr rests ↦
                  let hk' = subst (λ e. level_of_job node jobs j ≤ held_ceiling node
                  (job_at jobs k).sections e) (other_of node jobs t x k pick rests) hk in
                  elim (cases_eq j x) [
                    | inr other ↦ none_below t j k lower (subst (λ e. 0 < held_ceiling node
                        (job_at jobs j).sections e) (other_of node jobs t x j pick other) hj) hk'
                    | inl mine ↦
                        let w = under_way t k (omega arith) in
                        let same = ap (active_of node jobs (executed_before node jobs t))
                        (sym mine) in
                        let level = ap (level_of_job node jobs) (sym mine) in
                        let above : level_of_job node jobs j
                        < active_of node jobs (executed_before node jobs t) j =
                        elim (is.first k w.0 (pending_from node jobs t k w.1 w.2)) [
                          | inl less ↦
                              omega arith
                          | inr tied ↦ absurd (omega (arith, tied.1))
                        ] in
                        none_below t j k lower (omega arith) hk'
                  ]
            ]
      ] refl

  level_some : (j : ℕ) → j < length jobs → 0 < level_of_job node jobs j
  level_some j lt = (valid.each (job_at jobs j).task (known j lt)).level_from_one

  pub two_pending : (t j k : ℕ) → j < k → k < length jobs → NoOverrunBy node jobs t
      → (job_at jobs j).task ≡ (job_at jobs k).task → (job_at jobs k).ready ≤ t
      → executed_before node jobs t j < (job_at jobs j).executes → ⊥
  two_pending t j k lt below none same ready open_ =
      let earlier = later (job_at jobs k).ready t j ready in
      none k below ready (j, lt, same, omega arith)

  -- who holds a lock holds a ceiling of its own level at least
  holder : (t k : ℕ) (r : List ℕ) → holds_lock (job_at jobs k).sections
      (executed_before node jobs t k) r ≡ true → (k < length jobs)
      × (level_of_job node jobs k ≤ ceiling node r) × (ceiling node r ≤ held t k) × (0 < held t k)
  holder t k r h =
      let c = holds-ceiling node (job_at jobs k).sections (executed_before node jobs t k) r h in
      let b : (k < length jobs) × ((job_at jobs k).ready ≤ t) = began_of t k c.1 in
      let u = uses_own k r (names_from_holds (job_at jobs k).sections
      (executed_before node jobs t k) r h) in
      let s : 0 < level_of_job node jobs k = level_some k b.0 in
      (b.0, u, c.0, omega (arith, c.0))

  free_of : AskAnew jobs → NobodyFindsItTaken node jobs
  free_of anew t p r none pick asks =
      let is : IsPick node jobs t p = picked_is node jobs t p pick in
      let pp = pending_parts node jobs t p is.is_pending in
      let within = uses_own p r (names_from_asks (job_at jobs p).sections
      (executed_before node jobs t p) r asks) in
      record {
        is_free = λ k lt. elim (cases_Bool
            (holds_lock (job_at jobs k).sections (executed_before node jobs t k) r)) [
              | inr free ↦ free
              | inl holds ↦
                  let h = holder t k r holds in
                  let w = under_way t k h.3 in
                  let first : active_of node jobs (executed_before node jobs t) k
                  ≤ active_of node jobs (executed_before node jobs t) p =
                  elim (is.first k lt (pending_from node jobs t k w.1 w.2)) [
                    | inl less ↦ omega arith
                    | inr tied ↦ omega (arith, tied.0)
                  ] in
                  elim (cases_order (level_of_job node jobs p) (level_of_job node jobs k)) [
                    | inr differ ↦ elim differ [
                      | inl p_lower ↦ absurd (none_below t k p p_lower h.3 (omega (arith, first)))
                      | inr k_lower ↦
                          let above : level_of_job node jobs p
                          < active_of node jobs (executed_before node jobs t) p =
                          elim (is.first k lt (pending_from node jobs t k w.1 w.2)) [
                            | inl less ↦
                                omega (arith, h.2)
                            | inr tied ↦ absurd (omega (arith, tied.1))
                          ] in
                          absurd (none_below t p k k_lower (omega arith) (omega (arith, h.2)))
                    ]
                    | inl same_level ↦
                        let same = valid.levels_differ (job_at jobs p).task (job_at jobs k).task
                        (known p is.below) (known k lt) same_level in
                        elim (cases_order p k) [
                          | inl e ↦ absurd (true≢false (sym holds ∙ subst (λ x. holds_lock
                              (job_at jobs x).sections (executed_before node jobs t x) r ≡ false) e
                              (anew p (executed_before node jobs t p) r asks)))
                          | inr differ ↦ elim differ [
                            | inl before ↦ absurd (two_pending t p k before lt none same w.1 pp.1)
                            | inr after ↦
                                absurd (two_pending t k p after is.below none (sym same) pp.0 w.2)
                          ]
                        ]
                  ]
            ];
        within_ceiling = within;
      }

  -- in the tick of job p, which comes to hold a lock or holds it on, nobody else holds it
  none_beside : AskAnew jobs → (t p k : ℕ) (r : List ℕ) → NoOverrunBy node jobs t
      → picked node jobs t ≡ Some p → k ≢ p
      → (holds_lock (job_at jobs p).sections (executed_before node jobs t p) r ≡ true
      → holds_lock (job_at jobs k).sections (executed_before node jobs t k) r ≡ true → p ≡ k)
      → holds_lock (job_at jobs p).sections (executed_before node jobs (suc t) p) r ≡ true
      → holds_lock (job_at jobs k).sections (executed_before node jobs (suc t) k) r ≡ true → ⊥
  none_beside anew t p k r none pick ne before hp hk =
      let k_was = subst (λ e. holds_lock (job_at jobs k).sections e r ≡ true)
      (other_of node jobs t p k pick ne) hk in
      elim (holds_begins (job_at jobs p).sections (executed_before node jobs t p) r (subst (λ e.
      holds_lock (job_at jobs p).sections e r ≡ true) (own_of node jobs t p pick) hp)) [
        | inl held_on ↦ ne (sym (before held_on k_was))
        | inr asks ↦ true≢false (sym k_was ∙ (free_of anew t p r none pick asks).is_free k
            (holder t k r k_was).0)
      ]

  owner_of : AskAnew jobs → (t j k : ℕ) (r : List ℕ) → ((s : ℕ) → s < t → NoOverrunBy node jobs s)
      → holds_lock (job_at jobs j).sections (executed_before node jobs t j) r ≡ true
      → holds_lock (job_at jobs k).sections (executed_before node jobs t k) r ≡ true → j ≡ k
  owner_of anew zero j k r none hj hk =
      let c = holds-ceiling node (job_at jobs j).sections (executed_before node jobs 0 j) r hj in
      absurd (omega (arith, c.1, start_of node jobs j))
  owner_of anew (suc t) j k r none hj hk =
      let before : (i l : ℕ)
      → holds_lock (job_at jobs i).sections (executed_before node jobs t i) r ≡ true
      → holds_lock (job_at jobs l).sections (executed_before node jobs t l) r ≡ true → i ≡ l =
      λ i l. owner_of anew t i l r (λ s lt. none s (omega arith)) in
      elim (picked node jobs t) as (λ o. picked node jobs t ≡ o → j ≡ k) [
        | None ↦ λ idle. before j k
            (subst (λ e. holds_lock (job_at jobs j).sections e r ≡ true)
            (idle_of node jobs t j idle) hj)
            (subst (λ e. holds_lock (job_at jobs k).sections e r ≡ true)
            (idle_of node jobs t k idle) hk)
        | Some p ↦ λ pick. elim (cases_eq j p) [
          | inl j_runs ↦ elim (cases_eq k p) [
            | inl k_runs ↦ j_runs ∙ sym k_runs
            | inr ne ↦ absurd (none_beside anew t p k r (none t (omega arith)) pick ne (before p k)
                (subst (λ x. holds_lock (job_at jobs x).sections
                (executed_before node jobs (suc t) x) r ≡ true) j_runs hj) hk)
          ]
          | inr j_rests ↦ elim (cases_eq k p) [
            | inl k_runs ↦ absurd (none_beside anew t p j r (none t (omega arith)) pick j_rests
                (before p j) (subst (λ x. holds_lock (job_at jobs x).sections
                (executed_before node jobs (suc t) x) r ≡ true) k_runs hk) hj)
            | inr k_rests ↦ before j k
                (subst (λ e. holds_lock (job_at jobs j).sections e r ≡ true)
                (other_of node jobs t p j pick j_rests) hj)
                (subst (λ e. holds_lock (job_at jobs k).sections e r ≡ true)
                (other_of node jobs t p k pick k_rests) hk)
          ]
        ]
      ] refl

module _ (node : Node) (jobs : List Job) (ok : IsNode node) (legal : AreLegalJobs node jobs)
    (anew : AskAnew jobs) where
  uses_own : (j : ℕ) (r : List ℕ) → some_names (job_at jobs j).sections r ≡ true
      → level_of_job node jobs j ≤ ceiling node r
  uses_own j r names = (sound node ok).users_below (job_at jobs j).task r
      (uses_of node jobs legal.within j r names)

  pub free_law : NobodyFindsItTaken node jobs
  free_law =
      free_of node jobs (sound node ok) legal.known (spans_of node jobs legal.within) uses_own anew

  pub one_holder_law : OneOwner node jobs
  one_holder_law t j k r none hj hk =
      owner_of node jobs (sound node ok) legal.known (spans_of node jobs legal.within) uses_own anew
      (t + 1) j k r (λ s lt i below ready. none i below (omega arith)) hj hk

-- where jobs take their sections in turn, who asks for a lock holds none
pub nobody_waits_law : (node : Node) (jobs : List Job) → IsNode node → AreLegalJobs node jobs
    → TakeTurns jobs → NobodyWaits node jobs
nobody_waits_law node jobs ok legal turns t p r none pick asks =
    let free = free_law node jobs ok legal (anew_law jobs turns) t p r none pick asks in
    let ss : List CriticalSection = (job_at jobs p).sections in
    let e : ℕ = executed_before node jobs t p in
    let apart : AreApart 0 ss (job_at jobs p).executes = turns_apart jobs turns p in
    record {
      holds_none = λ q. holds_none_of 0 (job_at jobs p).executes ss e r q apart asks;
      is_free = free.is_free;
      at_own_level =
          omega (arith, held_none_of node 0 (job_at jobs p).executes ss e r apart asks);
      within_ceiling = free.within_ceiling;
    }
