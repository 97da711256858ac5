-- In the worst case no job is done before a time covers the work.
use Rattle.std.proofs.Common.{ℕ, zero, suc, ◌+◌, ◌-◌, ◌*◌, ◌<◌, ◌≤◌, ◌≡◌, ◌≢◌, inl, inr, refl, sym}
use Rattle.std.proofs.Common.{ap, ◌∙◌, subst, arith, if◌then◌else◌, Bool, true, false, ◌==◌, ◌&&◌}
use Rattle.std.proofs.Common.{cond, List, [], ◌∷◌, length, get_or, Some, max, nat_le, nat_lt, eqb}
use Rattle.std.specs.Prelude.{Contains}
use Rattle.std.proofs.lemmas.Bool.{cases_eq, cases_lt, cases_Bool, true≢false, lt-ltb, le-leb}
use Rattle.std.proofs.lemmas.Bool.{lt-leb, le-ltb, leb-true, ltb-true, and_parts, eq-eqb, ne_eqb}
use Rattle.std.proofs.Math.Nat.{mul-le-mul_right}
use Rattle.task_sheet.specs.Sheet.{CriticalSection, task_at}
use Rattle.task_sheet.specs.Demand.{releases_within, interference_of, interference_within, limit_of}
use Rattle.ceiling_kernel.proofs.Common.{Node, Job, job_at, job_task, level_in_order, level_of_job}
use Rattle.ceiling_kernel.proofs.Common.{is_inside, top_ceiling, held_ceiling, active_of}
use Rattle.ceiling_kernel.proofs.Common.{executed_before, picked, active_at, IsNode, AreLegalJobs}
use Rattle.ceiling_kernel.proofs.Common.{lateness_of, above_of, ready_within, work_of}
use Rattle.ceiling_kernel.specs.Bounds.{is_ready_in}
use Rattle.ceiling_kernel.proofs.NodeLaws.{IsSound, sound}
use Rattle.ceiling_kernel.proofs.SumLaws.{total, total-sum, total-le, total-add, total-same}
use Rattle.ceiling_kernel.proofs.SumLaws.{total-single, term-le}
use Rattle.ceiling_kernel.proofs.WindowLaws.{of_task, by_tasks}
use Rattle.ceiling_kernel.proofs.BehaviourLaws.{HasSpans, spans_of}
use Rattle.ceiling_kernel.proofs.SectionLaws.{inside_true, inside_from, stretch, stretch_held}
use Rattle.ceiling_kernel.proofs.LockLaws.{began_strictly}
use Rattle.ceiling_kernel.proofs.MachineLaws.{machine, is_high, rest_at, before_end}
use Rattle.ceiling_kernel.proofs.MachineLaws.{picked_is_first, pending_from, other_of}
use Rattle.ceiling_kernel.proofs.Busy.{to_do, tick_cases}
use Rattle.miss.specs.Exact.{IsWorst, EndsLow, NoneCovers, WorstComes, WorstMisses}
use Rattle.miss.proofs.Falls.{total-some, ticks}
use Rattle.ceiling_kernel.proofs.FinishLaws.{done_grows}

-- a job inside one of its sections holds its locks
held-place : (node : Node) (ss : List CriticalSection) (s : CriticalSection) (e k : ℕ)
    → k < length ss → get_or ss k s ≡ s → is_inside s e ≡ true
    → top_ceiling node s.locks ≤ held_ceiling node ss e
held-place node [] s e k lt is inside = absurd (omega arith)
held-place node (x ∷ ss) s e zero lt is inside =
    let inside' = subst (λ y. is_inside y e ≡ true) (sym is) inside in
    let same = ap (λ (y : CriticalSection). top_ceiling node y.locks) is in
    rw inside' (omega arith)
held-place node (x ∷ ss) s e (suc k) lt is inside =
    let ih = held-place node ss s e k (omega arith) is inside in
    omega arith

-- where the ceiling that is held reaches the level for m ticks, as many are left
stretch-ge : (node : Node) (level : ℕ) (ss : List CriticalSection) (m n e : ℕ) → m ≤ n
    → ((d : ℕ) → d < m → level ≤ held_ceiling node ss (e + d)) → m ≤ stretch node level ss n e
stretch-ge node level ss zero n e le h = omega arith
stretch-ge node level ss (suc m) zero e le h = absurd (omega arith)
stretch-ge node level ss (suc m) (suc n) e le h =
    let z : e + 0 ≡ e = omega arith in
    let here = subst (λ x. level ≤ held_ceiling node ss x) z (h 0 (omega arith)) in
    let t : nat_le level (held_ceiling node ss e) ≡ true =
    le-leb level (held_ceiling node ss e) here in
    let ih = stretch-ge node level ss m n (suc e) (omega arith)
    (λ d lt. let s : e + suc d ≡ suc e + d = omega arith in
    subst (λ x. level ≤ held_ceiling node ss x) s (h (suc d) (omega arith))) in
    rw t (omega arith)

-- what isn't of a task counts nowhere
off_is : (b c d : Bool) → d ≡ false → cond {A = ℕ} (b && d) 1 0 ≡ cond {A = ℕ} (c && d) 1 0
off_is true true d e = refl
off_is true false d e = rw e refl
off_is false true d e = rw e refl
off_is false false d e = refl

module _ (node : Node) (jobs : List Job) (is_node : IsNode node)
    (legal : AreLegalJobs node jobs) where
  valid : IsSound node
  valid = sound node is_node

  spanned : (j : ℕ) → HasSpans node jobs j
  spanned = spans_of node jobs legal.within

  module _ (j0 left : ℕ) (worst : IsWorst node jobs j0 left)
      (ends : EndsLow node (job_at jobs j0).task) where
    abbrev i : ℕ
    i = (job_at jobs j0).task

    is : i < length node.tasks
    is = legal.known j0 worst.is_job

    abbrev level : ℕ
    level = level_in_order node i

    level_some : 0 < level
    level_some = (let v = valid.each i is in v.level_from_one)

    abbrev s : ℕ
    s = (job_at jobs j0).ready

    abbrev limit : ℕ
    limit = limit_of (task_at node.tasks i)

    abbrev ready_of : ℕ → ℕ
    ready_of j = (job_at jobs j).ready

    abbrev executes_of : ℕ → ℕ
    executes_of j = (job_at jobs j).executes

    abbrev cost_of : ℕ → ℕ
    cost_of j = (job_task node jobs j).cost

    abbrev done : ℕ → ℕ → ℕ
    done t j = executed_before node jobs t j

    abbrev high : ℕ → Bool
    high j = nat_le level (level_of_job node jobs j)

    abbrev rest : ℕ → ℕ → ℕ
    rest j e = rest_at node jobs level level_some spanned j e

    abbrev todo : ℕ → ℕ → ℕ → ℕ
    todo t u j = to_do (length jobs) ready_of executes_of (is_high node jobs level level_some
        spanned) (rest_at node jobs level level_some spanned) (executed_before node jobs)
        (picked node jobs) (machine node jobs level level_some spanned) s (s + t) u j

    -- ---- at the instant
    none_done : (j u : ℕ) → u ≤ ready_of j → done u j ≡ 0
    none_done j u le =
        elim (cases_eq (done u j) 0) [
          | inl none ↦ none
          | inr some ↦ let early = began_strictly node jobs u j (omega arith) in
              absurd (omega arith)
        ]

    -- job j is high, and becomes ready in the window
    abbrev counts : ℕ → ℕ → Bool
    counts t j = nat_le level (level_of_job node jobs j)
        && (nat_le s (ready_of j) && nat_lt (ready_of j) (s + t))

    abbrev held : ℕ → ℕ → ℕ
    held k j = if k == j then left else 0

    abbrev held_cost : ℕ → ℕ → ℕ
    held_cost t j = if counts t j then cost_of j else 0

    -- how many of task h
    abbrev number : ℕ → ℕ → ℕ
    number t h = total (of_task (λ j. (job_at jobs j).task) (λ j. (job_at jobs j).arrival)
        (counts t) h) (length jobs)

    -- for a task of the level or above, those that become ready
    number-is : (t h : ℕ) → level ≤ level_in_order node h → number t h ≡ ready_within jobs h s t
    number-is t h le =
        total-same (of_task (λ j. (job_at jobs j).task) (λ j. (job_at jobs j).arrival) (counts t) h)
        (λ j. if is_ready_in jobs s t j && ((job_at jobs j).task == h) then 1 else 0)
        (length jobs)
        (λ j lt. elim (cases_eq (job_at jobs j).task h) [
          | inr ne ↦ off_is (counts t j) (is_ready_in jobs s t j) ((job_at jobs j).task == h)
              (ne_eqb (job_at jobs j).task h ne)
          | inl e ↦ (
              let same = ap (λ x. level_in_order node x) e in
              let up : nat_le level (level_of_job node jobs j) ≡ true =
              le-leb level (level_of_job node jobs j) (omega arith) in
              rw up refl)
        ])
        ∙ total-sum (λ j. if is_ready_in jobs s t j && ((job_at jobs j).task == h) then 1 else 0)
        (length jobs)

    -- the job itself counts
    own_counts : (t : ℕ) → 0 < t → 1 ≤ number t i
    own_counts t some =
        let a : nat_le level level ≡ true = le-leb level level (omega arith) in
        let b : nat_le s s ≡ true = le-leb s s (omega arith) in
        let c : nat_lt s (s + t) ≡ true = lt-ltb s (s + t) (omega arith) in
        let e = eq-eqb i i refl in
        let one : of_task (λ j. (job_at jobs j).task) (λ j. (job_at jobs j).arrival) (counts t) i j0
        ≡ 1 = rw (a, b, c, e) refl in
        omega (
          arith,
          one,
          term-le (of_task (λ j. (job_at jobs j).task)
              (λ j. (job_at jobs j).arrival) (counts t) i) (length jobs) j0 worst.is_job,
        )

    abbrev own_term : ℕ → ℕ
    own_term h = if i == h then (task_at node.tasks h).cost else 0

    abbrev higher_term : ℕ → ℕ → ℕ
    higher_term t h = if above_of node i h then interference_of (task_at node.tasks h) t else 0

    term-ge : (t h : ℕ) → 0 < t → t ≤ limit → h < length node.tasks
        → own_term h + higher_term t h ≤ number t h * (task_at node.tasks h).cost
    term-ge t h some within lt =
        elim (cases_eq i h) [
          | inl e ↦
              let own = eq-eqb i h e in
              let same = ap (λ x. level_in_order node x) (sym e) in
              let not_above : nat_lt level (level_in_order node h) ≡ false =
              le-ltb level (level_in_order node h) (omega arith) in
              let one = subst (λ x. 1 ≤ number t x) e (own_counts t some) in
              let product : 1 * (task_at node.tasks h).cost
              ≤ number t h * (task_at node.tasks h).cost =
              mul-le-mul_right (task_at node.tasks h).cost one in
              rw (own, not_above) (omega arith)
          | inr ne ↦
              let differ = ne_eqb i h ne in
              elim (cases_lt level (level_in_order node h)) [
                | inr low ↦ (let not_above : nat_lt level (level_in_order node h) ≡ false = le-ltb
                    level (level_in_order node h) low in rw (differ, not_above) (omega arith))
                | inl up ↦
                    let above : nat_lt level (level_in_order node h) ≡ true =
                    lt-ltb level (level_in_order node h) up in
                    let most = worst.dense h t lt above some within in
                    let counted = number-is t h (omega arith) in
                    let most' : releases_within (task_at node.tasks h) t ≤ number t h =
                    omega arith in
                    let product : releases_within (task_at node.tasks h)
                    t * (task_at node.tasks h).cost ≤ number t h * (task_at node.tasks h).cost =
                    mul-le-mul_right (task_at node.tasks h).cost most' in
                    rw (differ, above) (omega arith)
              ]
        ]

    -- the high jobs cost as much as the analysis counts
    costs : (t : ℕ) → 0 < t → t ≤ limit → (task_at node.tasks i).cost + interference_within
        node.tasks (above_of node i) t ≤ total (held_cost t) (length jobs)
    costs t some within =
        let tasks_first = by_tasks (λ j. (job_at jobs j).task) (λ j. (job_at jobs j).arrival)
        (counts t)
        (λ h. (task_at node.tasks h).cost) (length node.tasks) (length jobs)
        (λ j lt c. legal.known j lt) in
        let each = total-le (λ h. own_term h + higher_term t h) (λ h. number t h * (task_at
        node.tasks h).cost)
        (length node.tasks) (λ h lt. term-ge t h some within lt) in
        let split = total-add own_term (higher_term t) (length node.tasks) in
        let own = total-single (λ h. (task_at node.tasks h).cost) (length node.tasks) i is in
        let sum = total-sum (higher_term t) (length node.tasks) in
        omega arith

    -- ---- no other job of the task is in the window
    alone : (k t : ℕ) → k < length jobs → (job_at jobs k).task ≡ i → k ≢ j0 → s ≤ ready_of k
        → ready_of k < s + t → t ≤ limit → ⊥
    alone k t lt mine ne from before within =
        let v = valid.each i is in
        let room = v.late_within in
        let in_period = v.deadline_within in
        let short = v.late_before in
        let period_k = ap (λ x. (task_at node.tasks x).period) mine in
        let late_k = ap (λ x. lateness_of (task_at node.tasks x)) mine in
        let latest = worst.latest in
        elim (cases_lt k j0) [
          | inl less ↦
              let gap = legal.spaced k j0 less worst.is_job mine in
              let by = legal.not_late k lt in
              omega arith
          | inr more ↦
              let gap = legal.spaced j0 k (omega arith) lt (sym mine) in
              let early = legal.not_early k lt in
              omega arith
        ]

    -- so each job of the level or above that becomes ready in the window executes its cost
    full : (t j : ℕ) → j < length jobs → t ≤ limit → level ≤ level_of_job node jobs j
        → s ≤ ready_of j → ready_of j < s + t → executes_of j ≡ cost_of j
    full t j lt within up from before =
        elim (cases_eq j j0) [
          | inl same ↦ (let w = worst.whole in
              subst (λ x. executes_of x ≡ cost_of x) (sym same) w.executes)
          | inr other ↦ elim (cases_eq (job_at jobs j).task i) [
            | inl mine ↦ absurd (alone j t lt mine other from before within)
            | inr differ ↦
                let above : above_of node i (job_at jobs j).task ≡ true = lt-ltb level
                (level_of_job node jobs j) (elim (cases_eq (level_of_job node jobs j) level) [
                  | inl tied ↦ absurd (differ
                      (valid.levels_differ (job_at jobs j).task i (legal.known j lt) is tied))
                  | inr ne ↦ omega arith
                ]) in
                worst.costs j lt above from
          ]
        ]

    high-todo : (t j : ℕ) → j < length jobs → t ≤ limit
        → nat_le level (level_of_job node jobs j) ≡ true → todo t s j ≡ held_cost t j
    high-todo t j lt within up =
        elim (cases_Bool (nat_le s (ready_of j) && nat_lt (ready_of j) (s + t))) [
          | inr outside ↦ rw (up, outside) refl
          | inl in_window ↦
              let p = and_parts (nat_le s (ready_of j)) (nat_lt (ready_of j) (s + t)) in_window in
              let from = leb-true s (ready_of j) p.0 in
              let none = none_done j s from in
              let all = full t j lt within (leb-true level (level_of_job node jobs j) up) from
              (ltb-true (ready_of j) (s + t) p.1) in
              rw (up, in_window, none) (omega arith)
        ]

    low-cost : (t j : ℕ) → nat_le level (level_of_job node jobs j) ≡ false → held_cost t j ≡ 0
    low-cost t j low = rw low refl

    -- what is to do at the instant
    start : (t : ℕ) → 0 < t → t ≤ limit → work_of node i left t ≤ total (todo t s) (length jobs)
    start t some within =
        let c = costs t some within in
        elim worst.held_up [
          | inl none ↦
              let le = total-le (held_cost t) (todo t s) (length jobs)
              (λ j lt. elim (cases_Bool (nat_le level (level_of_job node jobs j))) [
                | inl up ↦ omega (arith, high-todo t j lt within up)
                | inr low ↦ omega (arith, low-cost t j low)
              ]) in
              omega arith
          | inr held_up ↦
              let k : ℕ = held_up.job in
              let low_k : nat_le level (level_of_job node jobs k) ≡ false =
              lt-leb level (level_of_job node jobs k) held_up.lower in
              let b = inside_true held_up.section (done s k) held_up.inside in
              let to_go = held_up.to_go in
              let holds : (d : ℕ) → d < left
              → level ≤ held_ceiling node (job_at jobs k).sections (done s k + d) = λ d less.
              let in_ = inside_from
              held_up.section (done s k + d) (omega (arith, b.0)) (omega (arith, less)) in
              let c : Contains (job_at jobs k).sections held_up.section = held_up.of_job in
              let top = held-place node
              (job_at jobs k).sections held_up.section (done s k + d) c.0 c.1 c.2 in_ in
              omega (arith, top, held_up.reaches) in
              let ends_in : done s k + left ≤ executes_of k =
              (let last = before_end node jobs level level_some spanned k (done s k + (left - 1))
              (holds (left - 1) (omega (arith, b.1))) in omega (arith, b.1)) in
              let r = stretch-ge node level (job_at jobs k).sections left (executes_of k - done s k)
              (done s k) (omega arith) holds in
              let le = total-le (λ j. held_cost t j + held k j) (todo t s) (length jobs)
              (λ j lt. elim (cases_eq k j) [
                | inl e ↦
                    let same : eqb k j ≡ true = eq-eqb k j e in
                    let low : nat_le level (level_of_job node jobs j) ≡ false =
                    subst (λ x. nat_le level (level_of_job node jobs x) ≡ false) e low_k in
                    let r' : left ≤ stretch node level (job_at jobs j).sections
                    (executes_of j - done s j) (done s j) = subst (λ x. left ≤ stretch node
                    level (job_at jobs x).sections (executes_of x - done s x) (done s x)) e r in
                    rw (low, same) (omega arith)
                | inr ne ↦
                    let differ : eqb k j ≡ false = ne_eqb k j ne in
                    elim (cases_Bool (nat_le level (level_of_job node jobs j))) [
                      | inl up ↦ (let h : todo t s j ≡ held_cost t j = high-todo t j lt within up in
                          rw differ (omega arith))
                      | inr low ↦ rw (low, differ) (omega arith)
                    ]
              ]) in
              let split = total-add (held_cost t) (held k) (length jobs) in
              let single = total-single (λ j. left) (length jobs) k held_up.is_job in
              omega arith
        ]

    -- ---- the tick in which it would finish
    -- another job that is pending with a priority of the level or above keeps it from its last
    -- tick, unless it is of the same task
    no_last : (u k : ℕ) → picked node jobs u ≡ Some j0 → suc (done u j0) ≡ executes_of j0
        → k < length jobs → ready_of k ≤ u → done u k < executes_of k
        → level ≤ active_of node jobs (executed_before node jobs u) k
        → (level_of_job node jobs k ≢ level) → ⊥
    no_last u k mine last lt r c hot ne =
        let p = picked_is_first node jobs u j0 mine in
        let w = worst.whole in
        let at_end : done u j0 ≡ cost_of j0 - 1 = omega (arith, w.executes) in
        let own = ap (λ (ss : List CriticalSection). max level (held_ceiling node ss (done u j0)))
        w.sections ∙ (ap (λ e. active_at node i e) at_end ∙ ends) in
        elim (p.first k lt (pending_from node jobs u k r c)) [
          | inl less ↦ omega arith
          | inr tied ↦ elim (cases_lt (level_of_job node jobs k) level) [
            | inl low ↦ omega (arith, tied.1)
            | inr up ↦
                let self : level_of_job node jobs k
                ≤ active_of node jobs (executed_before node jobs u) k = omega arith in
                ne (omega (arith, tied.0))
          ]
        ]

    no_finish : (m : ℕ) → suc m ≤ limit → NoneCovers node i left (suc m)
        → picked node jobs (s + m) ≡ Some j0 → suc (done (s + m) j0) ≡ executes_of j0
        → done (suc (s + m)) j0 ≡ executes_of j0 → ⊥
    no_finish m within none mine last fin =
        let t : ℕ = suc m in
        let more = none t (omega arith) (omega arith) in
        let begin = start t (omega arith) within in
        let fall = ticks (length jobs) ready_of executes_of (is_high node jobs level level_some
        spanned)
        (rest_at node jobs level level_some spanned) (executed_before node jobs)
        (picked node jobs) (machine node jobs level level_some spanned) s (s + t) s t in
        let found = total-some (todo t (s + t)) (length jobs) (omega arith) in
        let k : ℕ = found.0 in
        let at_end : s + t ≡ suc (s + m) = omega arith in
        elim (cases_Bool (nat_le level (level_of_job node jobs k))) [
          | inl up ↦
              let up' = leb-true level (level_of_job node jobs k) up in
              elim (cases_Bool (nat_le s (ready_of k) && nat_lt (ready_of k) (s + t))) [
                | inr outside ↦ (let nothing : todo t (s + t) k ≡ 0 = rw (up, outside) refl in
                    omega (arith, found.2, nothing))
                | inl in_window ↦
                    let p = and_parts (nat_le s (ready_of k)) (nat_lt (ready_of k) (s + t))
                    in_window in
                    let lo = leb-true s (ready_of k) p.0 in
                    let hi = ltb-true (ready_of k) (s + t) p.1 in
                    let lacks : todo t (s + t) k ≡ executes_of k - done (s + t) k =
                    rw (up, in_window) refl in
                    let open_ = subst (λ x. done x k
                    < executes_of k) at_end (omega (arith, found.2, lacks)) in
                    let grown = done_grows node jobs k (s + m) (suc (s + m)) (omega arith) in
                    let other : k ≢ j0 =
                    λ e. (let c = ap (λ x. done (suc (s + m)) x) e in let d = ap (λ x. executes_of
                    x) e in absurd (omega arith)) in
                    no_last (s + m) k mine last found.1 (omega arith) (omega arith) (omega arith)
                    (λ same. alone k t found.1 (valid.levels_differ (job_at jobs k).task i
                    (legal.known k found.1) is same) other lo hi within)
              ]
          | inr low ↦
              let low' : level_of_job node jobs k < level =
              elim (cases_lt (level_of_job node jobs k) level) [
                | inl l ↦ l
                | inr ge ↦
                    absurd (true≢false (sym (le-leb level (level_of_job node jobs k) ge) ∙ low))
              ] in
              let other : k ≢ j0 = λ e. (let c = ap (λ x. level_of_job node jobs x) e in
              absurd (omega arith)) in
              let inside : 0 < stretch node level (job_at jobs k).sections
              (executes_of k - done (s + t) k) (done (s + t) k) = rw low at found.2 in
              let same = ap (λ x. done x k) at_end
              ∙ other_of node jobs (s + m) j0 k mine other in
              let inside' = subst (λ x. 0 < stretch node level (job_at jobs k).sections (executes_of
              k - x) x)
              same inside in
              let inside'' : 0 < rest k (done (s + m) k) = rw low inside' in
              let held = stretch_held node level (job_at jobs k).sections (executes_of k - done (s
              + m) k)
              (done (s + m) k) inside' in
              let m' = machine node jobs level level_some spanned in
              let lacks = m'.rest_inside k (done (s + m) k) inside'' in
              let some : 0 < done (s + m) k = elim (cases_eq (done (s + m) k) 0) [
                | inl z ↦ (let first = m'.rest_first k in let same0 = ap (λ e. rest k e) z in absurd
                    (omega arith))
                | inr nz ↦ omega arith
              ] in
              let early = began_strictly node jobs (s + m) k some in
              no_last (s + m) k mine last found.1 (omega arith) lacks (omega arith)
              (λ e. absurd (omega arith))
        ]

    pub not_done : (t : ℕ) → t ≤ limit → NoneCovers node i left t → done (s + t) j0 < executes_of j0
    not_done zero within none =
        let v = valid.each i is in
        let some = v.takes_time in
        let w = worst.whole in
        let z = none_done j0 (s + 0) (omega arith) in
        omega (arith, w.executes)
    not_done (suc m) within none =
        let ih = not_done m (omega arith) (λ u some le. none u some (omega arith)) in
        let at_end : s + suc m ≡ suc (s + m) = omega arith in
        let to_show : done (suc (s + m)) j0 < executes_of j0 =
        elim (tick_cases (length jobs) ready_of executes_of (is_high node jobs level level_some
        spanned) (rest_at node jobs level level_some spanned) (executed_before node jobs)
        (picked node jobs) (machine node jobs level level_some spanned) (s + m) j0) [
          | inl e ↦ omega arith
          | inr mine ↦ elim (cases_lt (done (suc (s + m)) j0) (executes_of j0)) [
            | inl open_ ↦ open_
            | inr fin ↦ absurd (no_finish m within none mine.0 (omega (arith, mine.1))
                (omega (arith, mine.1)))
          ]
        ] in
        subst (λ x. done x j0 < executes_of j0) (sym at_end) to_show

    pub by_deadline : NoneCovers node i left limit
        → done ((job_at jobs j0).arrival + (task_at node.tasks i).deadline) j0 < executes_of j0
    by_deadline none =
        let open_ = not_done limit (omega arith) none in
        let latest = worst.latest in
        let later = done_grows node jobs j0 ((job_at jobs j0).arrival + (task_at node.tasks
        i).deadline)
        (s + limit) (omega arith) in
        omega arith

pub comes_law : (node : Node) (jobs : List Job) → IsNode node → AreLegalJobs node jobs
    → WorstComes node jobs
comes_law node jobs is_node legal j left t worst ends within none =
    not_done node jobs is_node legal j left worst ends t within none

pub misses_law : (node : Node) (jobs : List Job) → IsNode node → AreLegalJobs node jobs
    → WorstMisses node jobs
misses_law node jobs is_node legal j left worst ends none =
    by_deadline node jobs is_node legal j left worst ends none
