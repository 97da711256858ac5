-- Each job of a task that passes finishes by its bound; and by a time that covers its work, where a section that blocks
-- is left after its first tick.
use Rattle.std.proofs.Common.{ℕ, ◌+◌, ◌-◌, ◌*◌, ◌/◌, ◌<◌, ◌≤◌, ◌≡◌, inl, inr, refl, sym, ap, ◌∙◌}
use Rattle.std.proofs.Common.{subst, arith, if◌then◌else◌, Bool, true, false, ◌==◌, ◌&&◌, cond}
use Rattle.std.proofs.Common.{List, [], ◌∷◌, length, nat_le, nat_lt, eqb}
use Rattle.std.proofs.lemmas.Bool.{cases_eq, cases_lt, cases_Bool, lt-ltb, le-leb, lt-leb, leb-true}
use Rattle.std.proofs.lemmas.Bool.{ltb-true, and_parts, eq-eqb, eqb-true, ne_eqb, le-ltb}
use Rattle.std.proofs.lemmas.List.{get_or_past}
use Rattle.std.proofs.Math.Nat.{mul-le-mul_right, div-lt_iff_lt-mul, div-eq_of_lt-le}
use Rattle.std.proofs.lemmas.Grind.{div_ceil_times}
use Rattle.std.specs.List.{list_any}
use Rattle.task_sheet.proofs.Common.{no_task, Task, CriticalSection, task_at, Indexes, with_index}
use Rattle.task_sheet.proofs.Common.{greatest_below, uses, shares_lock, reaches, releases_within}
use Rattle.task_sheet.proofs.Common.{longest_reached, blocking_of, interference_of, demand_of}
use Rattle.task_sheet.proofs.Common.{limit_of, past_jitter, IsPassingOrder}
use Rattle.ceiling_kernel.specs.Tick.{Node, Job, job_at, job_task, level_in_order, level_of_job}
use Rattle.ceiling_kernel.specs.Tick.{executed_before, picked, ceiling, top_ceiling}
use Rattle.ceiling_kernel.specs.Waits.{IsNode, AreLegalJobs, lateness_of, NoOverrun}
use Rattle.ceiling_kernel.specs.Bounds.{above_of, is_ready_in, ready_within, WindowsHold, PassesBy}
use Rattle.ceiling_kernel.specs.Bounds.{response_by, ResponsesBound, BoundHolds, CoversBy}
use Rattle.ceiling_kernel.specs.Bounds.{TighterBoundHolds}
use Rattle.ceiling_kernel.proofs.NodeLaws.{IsSoundTask, IsSound, sound, top_user, stands_above}
use Rattle.ceiling_kernel.proofs.SumLaws.{total, total-sum, total-le, total-add, total-single}
use Rattle.ceiling_kernel.proofs.SumLaws.{total-zero}
use Rattle.task_sheet.proofs.Below.{some_below-at, le-greatest_below}
use Rattle.ceiling_kernel.proofs.WindowLaws.{of_task, most_in_window, by_tasks}
use Rattle.ceiling_kernel.proofs.BehaviourLaws.{HasSpans, spans_of, taken_apart}
use Rattle.ceiling_kernel.proofs.SectionLaws.{rest-le, stretch-le}
use Rattle.ceiling_kernel.proofs.MachineLaws.{machine, is_high, rest_at}
use Rattle.ceiling_kernel.proofs.Busy.{work, finishes, done_later}

-- how many jobs of a task become ready in a window of t ticks at most, by its period and how late they may be
abbrev most_jobs : Task → ℕ → ℕ
most_jobs task t = ((t + lateness_of task) + task.period - 1) / task.period

-- that is what the analysis counts
most_jobs-releases : (task : Task) (t : ℕ) → 0 < task.period
    → most_jobs task t ≡ releases_within task t
most_jobs-releases task t some =
    let b = div_ceil_times (t + task.jitter) task.period some in
    div-eq_of_lt-le task.period (omega (arith, b.1)) (omega (arith, b.0))

-- a task of a level or above that uses one of some locks
abbrev pub IsTopOf : Node → ℕ → List (List ℕ) → Type 0
IsTopOf node level locks = (h : ℕ) × (h < length node.tasks) × (level ≤ level_in_order node h)
    × (list_any (λ lock. uses (task_at node.tasks h) lock) locks ≡ true)

-- where the highest ceiling reaches the level, there is one
pub top_of : (node : Node) → IsNode node → (level : ℕ) (locks : List (List ℕ)) → 0 < level
    → level ≤ top_ceiling node locks → IsTopOf node level locks
top_of node ok level [] some h = absurd (omega arith)
top_of node ok level (r ∷ rs) some h =
    elim (cases_lt (ceiling node r) level) [
      | inr here ↦
          let u = top_user node ok r level some here in
          (u.0, u.1, u.2, rw u.3)
      | inl low ↦
          let ih : IsTopOf node level rs = top_of node ok level rs some (omega arith) in (
            ih.0,
            ih.1,
            ih.2,
            elim (cases_Bool (uses (task_at node.tasks ih.0) r)) [
              | inl t ↦ rw t
              | inr f ↦ rw (f, ih.3)
            ],
          )
    ]

-- what is left of a section of a task below another one, where it blocks that one
module _ (node : Node) (jobs : List Job) (is_node : IsNode node)
    (spanned : (j : ℕ) → HasSpans node jobs j) (i : ℕ) (is : i < length node.tasks)
    (some : 0 < level_in_order node i) where
  abbrev base : ℕ
  base = level_in_order node i

  -- the tasks of this level or above
  abbrev upper : Indexes
  upper = with_index (above_of node i) i

  upper-high : (h : ℕ) → h < length node.tasks → base ≤ level_in_order node h → upper h ≡ true
  upper-high h lt le =
      elim (cases_eq h i) [
        | inl e ↦ rw (eq-eqb h i e)
        | inr ne ↦ elim (cases_eq base (level_in_order node h)) [
          | inl same ↦ absurd (ne ((sound node is_node).levels_differ h i lt is (sym same)))
          | inr differ ↦ rw (ne_eqb h i ne, lt-ltb base (level_in_order node h) (omega arith))
        ]
      ]

  upper-low : (h : ℕ) → level_in_order node h < base → upper h ≡ false
  upper-low h low =
      rw (
        ne_eqb h i (λ e. omega (arith, ap (level_in_order node) e)),
        le-ltb base (level_in_order node h) (omega arith),
      )

  reached : (s : CriticalSection) → base ≤ top_ceiling node s.locks
      → reaches node.tasks upper s ≡ true
  reached s le =
      let u : IsTopOf node base s.locks = top_of node is_node base s.locks some le in
      some_below-at (length node.tasks) (λ k. upper k && shares_lock (task_at node.tasks k) s)
      u.0 u.1 (rw (upper-high u.0 u.1 u.2, u.3))

  -- the section is left after its first tick
  pub rest_most : (j e : ℕ)
      → rest_at node jobs base some spanned j e ≤ blocking_of node.tasks i (above_of node i) - 1
  unfolding blocking_of
  rest_most j e =
      let k : ℕ = (job_at jobs j).task in
      let needs : ℕ = (job_at jobs j).executes in
      elim (cases_lt (level_of_job node jobs j) base) [
        | inr ge ↦ rw (le-leb base (level_of_job node jobs j) ge) (omega arith)
        | inl low ↦
            let not_high = lt-leb base (level_of_job node jobs j) low in
            let o : HasSpans node jobs j = spanned j in
            let a = rest-le node base upper reached (job_task node jobs j).sections 0 needs o.spans
            e o.taken in
            let apart = taken_apart (job_task node jobs j).sections 0 needs o.spans o.taken in
            let s = stretch-le node base some 0 needs (job_at jobs j).sections o.spans apart
            o.above (needs - e) e in
            elim (cases_lt k (length node.tasks)) [
              | inl lt ↦
                  let b = le-greatest_below (length node.tasks)
                  (λ k. if upper k then 0 else longest_reached node.tasks upper
                  (task_at node.tasks k)) k lt in
                  let b' : longest_reached node.tasks upper (task_at node.tasks k)
                  ≤ greatest_below (length node.tasks) (λ k. if upper k then 0
                  else longest_reached node.tasks upper (task_at node.tasks k)) =
                  rw (upper-low k low) at b in
                  rw not_high (omega arith)
              | inr past ↦
                  rw not_high (omega (
                    arith,
                    ap (longest_reached node.tasks upper)
                        (get_or_past node.tasks k no_task past),
                  ))
            ]
      ]

module _ (node : Node) (jobs : List Job) (is_node : IsNode node)
    (legal : AreLegalJobs node jobs) where
  valid : IsSound node
  valid = sound node is_node

  spanned : (j : ℕ) → HasSpans node jobs j
  spanned = spans_of node jobs legal.within

  -- of the jobs of task h that become ready in a window of t ticks, no more count
  most_ready : (counts : ℕ → Bool) (h a t : ℕ) → h < length node.tasks → 0 < t
      → ((j : ℕ) → j < length jobs → counts j ≡ true → (a ≤ (job_at jobs j).ready)
      × ((job_at jobs j).ready < a + t))
      → total (of_task (λ j. (job_at jobs j).task) (λ j. (job_at jobs j).arrival) counts h)
      (length jobs) ≤ most_jobs (task_at node.tasks h) t
  most_ready counts h a t lt some in_window =
      most_in_window (λ j. (job_at jobs j).task) (λ j. (job_at jobs j).arrival) counts h
      (a - lateness_of (task_at node.tasks h)) (t + lateness_of (task_at node.tasks h))
      (task_at node.tasks h).period (length jobs)
      (valid.each h lt).period_from_one
      (omega arith)
      (λ j below c e.
      omega (
        arith,
        legal.not_late j below,
        ap (λ x. lateness_of (task_at node.tasks x)) e,
        (in_window j below c).0,
      ))
      (λ j k jk below c ej ek.
      omega (
        arith,
        legal.spaced j k jk below (ej ∙ sym ek),
        ap (λ x. (task_at node.tasks x).period)
            ek,
      ))
      (λ j below c e.
      omega (arith, legal.not_early j below, (in_window j below c).1))

  -- a window holds no more jobs of a task than the analysis counts
  window_holds : (h a t : ℕ) → h < length node.tasks → 0 < t
      → ready_within jobs h a t ≤ releases_within (task_at node.tasks h) t
  window_holds h a t lt some =
      let counted = most_jobs-releases (task_at node.tasks h) t (valid.each h lt).period_from_one in
      let most = most_ready (is_ready_in jobs a t) h a t lt some (λ j below c.
      let p = and_parts (nat_le a (job_at jobs j).ready) (nat_lt (job_at jobs j).ready (a + t)) c in
      (leb-true a (job_at jobs j).ready p.0, ltb-true (job_at jobs j).ready (a + t) p.1)) in
      omega (
        arith,
        total-sum (of_task (λ j. (job_at jobs j).task) (λ j. (job_at jobs j).arrival)
            (is_ready_in jobs a t) h) (length jobs),
      )

  module _ (i t : ℕ) (is : i < length node.tasks) (covers : CoversBy node i t) where
    abbrev level : ℕ
    level = level_in_order node i

    level_some : 0 < level
    level_some = (valid.each i is).level_from_one

    -- what is left of a section that blocks
    abbrev blocking : ℕ
    blocking = blocking_of node.tasks i (above_of node i) - 1

    abbrev ready_of : ℕ → ℕ
    ready_of j = (job_at jobs j).ready

    abbrev executes_of : ℕ → ℕ
    executes_of j = (job_at jobs j).executes

    abbrev cost_of : ℕ → ℕ
    cost_of j = (job_task node jobs j).cost

    -- job j is high, and becomes ready in the window of t ticks from a
    abbrev counts : ℕ → ℕ → Bool
    counts a j = nat_le level (level_of_job node jobs j)
        && (nat_le a (ready_of j) && nat_lt (ready_of j) (a + t))

    counts_parts : (a j : ℕ) → counts a j ≡ true → (level ≤ level_of_job node jobs j)
        × (a ≤ ready_of j) × (ready_of j < a + t)
    counts_parts a j h =
        let p = and_parts (nat_le level (level_of_job node jobs j))
        (nat_le a (ready_of j) && nat_lt (ready_of j) (a + t)) h in
        let q = and_parts (nat_le a (ready_of j)) (nat_lt (ready_of j) (a + t)) p.1 in (
          leb-true level (level_of_job node jobs j) p.0,
          leb-true a (ready_of j) q.0,
          ltb-true
              (ready_of j) (a + t) q.1,
        )

    -- how many of task h
    abbrev number : ℕ → ℕ → ℕ
    number a h = total (of_task (λ j. (job_at jobs j).task) (λ j. (job_at jobs j).arrival)
        (counts a) h) (length jobs)

    number-le : (a h : ℕ) → h < length node.tasks → number a h ≤ most_jobs (task_at node.tasks h) t
    number-le a h lt = most_ready (counts a) h a t lt covers.from_one
        (λ j below c. let p = counts_parts a j c in (p.1, p.2))

    number-zero : (a h : ℕ) → level_in_order node h < level → number a h ≡ 0
    number-zero a h low =
        total-zero (of_task (λ j. (job_at jobs j).task) (λ j. (job_at jobs j).arrival) (counts a) h)
        (length jobs) (λ j lt.
        elim (cases_Bool (counts a j && ((job_at jobs j).task == h))) [
          | inr out ↦ rw out
          | inl both ↦
              let p = and_parts (counts a j) ((job_at jobs j).task == h) both in
              absurd (omega (
                arith,
                counts_parts a j p.0,
                ap (λ x. level_in_order node x)
                    (eqb-true (job_at jobs j).task h p.1),
              ))
        ])

    -- one term of the bound
    abbrev own_term : ℕ → ℕ
    own_term h = if i == h then (task_at node.tasks h).cost else 0

    abbrev higher_term : ℕ → ℕ
    higher_term h =
        if nat_lt level (level_in_order node h) then interference_of (task_at node.tasks h) t else 0

    term-le_bound : (a h : ℕ) → h < length node.tasks
        → number a h * (task_at node.tasks h).cost ≤ own_term h + higher_term h
    term-le_bound a h lt =
        elim (cases_lt (level_in_order node h) level) [
          | inl low ↦ (let none : number a h ≡ 0 = number-zero a h low in rw none (omega arith))
          | inr at_least ↦
              let most : number a h ≤ most_jobs (task_at node.tasks h) t = number-le a h lt in
              elim (cases_eq i h) [
                | inl e ↦
                    let own : eqb i h ≡ true = eq-eqb i h e in
                    let v : IsSoundTask node h = valid.each h lt in
                    let p : t ≤ limit_of (task_at node.tasks i) = covers.in_time in
                    let ph : t ≤ limit_of (task_at node.tasks h) =
                    subst (λ x. t ≤ limit_of (task_at node.tasks x)) e p in
                    let room : limit_of (task_at node.tasks h) + lateness_of (task_at node.tasks h)
                    ≤ (task_at node.tasks h).deadline = v.late_within in
                    let within : (task_at node.tasks h).deadline ≤ (task_at node.tasks h).period =
                    v.deadline_within in
                    let two : most_jobs (task_at node.tasks h) t < 2 =
                    (div-lt_iff_lt-mul v.period_from_one).1 (omega (arith, v.period_from_one)) in
                    let one : number a h ≤ 1 = omega arith in
                    rw own (omega (arith, mul-le-mul_right (task_at node.tasks h).cost one))
                | inr ne ↦
                    elim (cases_eq (level_in_order node i) (level_in_order node h)) [
                      | inl same ↦ absurd (ne (valid.levels_differ i h is lt same))
                      | inr differ ↦
                          let above : nat_lt level (level_in_order node h) ≡ true =
                          lt-ltb level (level_in_order node h) (omega arith) in
                          let v : IsSoundTask node h = valid.each h lt in
                          let counted : most_jobs (task_at node.tasks h) t
                          ≡ releases_within (task_at node.tasks h) t =
                          most_jobs-releases (task_at node.tasks h) t v.period_from_one in
                          let most' : number a h ≤ releases_within (task_at node.tasks h) t =
                          rw counted at most in
                          rw above (omega (
                            arith,
                            mul-le-mul_right (task_at node.tasks h).cost
                                most',
                          ))
                    ]
              ]
        ]

    abbrev window_work : ℕ → ℕ → ℕ
    window_work a j = work (length jobs) ready_of executes_of (is_high node jobs level level_some
        spanned) (rest_at node jobs level level_some spanned) (executed_before node jobs)
        (picked node jobs) (machine node jobs level level_some spanned) a (a + t) j

    work-counts : (a j : ℕ) → window_work a j ≡ cond (counts a j) (executes_of j) 0
    work-counts a j =
        elim (cases_Bool (nat_le level (level_of_job node jobs j))) [
          | inl high ↦ rw high
          | inr low ↦ rw low
        ]

    -- a job executes at most its task's cost
    work-le : (a j : ℕ) → j < length jobs → window_work a j ≤ cond (counts a j) (cost_of j) 0
    work-le a j lt =
        let most : executes_of j ≤ cost_of j = (legal.within j lt).executes in
        let is : window_work a j ≡ cond (counts a j) (executes_of j) 0 = work-counts a j in
        elim (cases_Bool (counts a j)) [
          | inl c ↦ (let e : window_work a j ≡ executes_of j = rw c at is in rw c (omega arith))
          | inr c ↦ (let e : window_work a j ≡ 0 = rw c at is in rw c (omega arith))
        ]

    fits : (a : ℕ) → total (window_work a) (length jobs) + blocking ≤ t
    fits a =
        let same = total-le (window_work a) (λ j. if counts a j then cost_of j else 0) (length jobs)
        (λ j lt. work-le a j lt) in
        let tasks_first = by_tasks (λ j. (job_at jobs j).task) (λ j. (job_at jobs j).arrival)
        (counts a) (λ h. (task_at node.tasks h).cost) (length node.tasks) (length jobs)
        (λ j lt c. legal.known j lt) in
        omega (
          arith,
          total-le (λ h. number a h * (task_at node.tasks h).cost)
              (λ h. own_term h + higher_term h)
              (length node.tasks) (λ h lt. term-le_bound a h lt),
          total-add own_term higher_term
              (length node.tasks),
          total-single (λ h. (task_at node.tasks h).cost) (length node.tasks) i
              is,
          covers.enough,
          total-sum higher_term (length node.tasks),
        )

    -- THE BOUND: a job of the task finishes within t ticks after it is ready
    pub within_bound : (j : ℕ) → j < length jobs → (job_at jobs j).task ≡ i
        → executes_of j ≤ executed_before node jobs (ready_of j + t) j
    within_bound j lt mine =
        let same : level_of_job node jobs j ≡ level = ap (λ x. level_in_order node x) mine in
        finishes (length jobs) ready_of executes_of (is_high node jobs level level_some spanned)
        (rest_at node jobs level level_some spanned) (executed_before node jobs)
        (picked node jobs) (machine node jobs level level_some spanned)
        t blocking covers.from_one (rest_most node jobs is_node spanned i is level_some) fits j lt
        (le-leb level (level_of_job node jobs j) (omega arith))

pub windows_law : (node : Node) (jobs : List Job) → IsNode node → AreLegalJobs node jobs
    → WindowsHold node jobs
windows_law node jobs valid legal = window_holds node jobs valid legal

pub responses_law : (node : Node) → ResponsesBound node
responses_law node i r response within = (
  past_jitter (task_at node.tasks i) r,
  record {
    from_one = omega (arith, response.positive);
    in_time = omega (arith, response.positive);
    enough = omega (arith, response.fixed);
  },
  omega (arith, response.positive),
)

executed_later : (node : Node) (jobs : List Job) (valid : IsNode node)
    (legal : AreLegalJobs node jobs) (s u j : ℕ) → s ≤ u
    → executed_before node jobs s j ≤ executed_before node jobs u j
executed_later node jobs valid legal s u j le =
    let one : 0 < 1 = omega arith in
    let own : (k : ℕ) → HasSpans node jobs k = spans_of node jobs legal.within in
    done_later (length jobs) (λ k. (job_at jobs k).ready) (λ k. (job_at jobs k).executes)
    (is_high node jobs 1 one own) (rest_at node jobs 1 one own) (executed_before node jobs)
    (picked node jobs) (machine node jobs 1 one own) s u j le

pub tighter_law : (node : Node) (jobs : List Job) → IsNode node → AreLegalJobs node jobs
    → TighterBoundHolds node jobs
tighter_law node jobs valid legal j t lt covers =
    within_bound node jobs valid legal (job_at jobs j).task t (legal.known j lt) covers j lt refl

-- the same from the arrival
pub tighter_response : (node : Node) (jobs : List Job) → IsNode node → AreLegalJobs node jobs
    → (j t : ℕ) → j < length jobs → CoversBy node (job_at jobs j).task t
    → (job_at jobs j).executes ≤ executed_before node jobs
    ((job_at jobs j).arrival + response_by (job_task node jobs j) t) j
tighter_response node jobs valid legal j t lt covers =
    let fin = tighter_law node jobs valid legal j t lt covers in
    let by = legal.not_late j lt in
    let later = executed_later node jobs valid legal ((job_at jobs j).ready + t)
    ((job_at jobs j).arrival + response_by (job_task node jobs j) t) j (omega arith) in
    omega arith

-- the demand of a task that passes counts that tick, too, and timers and interrupts
pub covers_from : (node : Node) (i t : ℕ) → PassesBy node i t → CoversBy node i t
unfolding demand_of
covers_from node i t passes =
    let enough = passes.enough in
    record { from_one = passes.from_one; in_time = passes.in_time; enough = omega arith }

pub bound_law : (node : Node) (jobs : List Job) → IsNode node → AreLegalJobs node jobs
    → BoundHolds node jobs
bound_law node jobs valid legal j t lt passes =
    tighter_response node jobs valid legal j t lt (covers_from node (job_at jobs j).task t passes)

-- where each task passes by some time, no job overruns the one before it
no_overrun_if : (node : Node) (jobs : List Job) → IsNode node → AreLegalJobs node jobs
    → ((i : ℕ) → i < length node.tasks → (t : ℕ) × PassesBy node i t) → NoOverrun node jobs
no_overrun_if node jobs valid legal pass k lt over =
    let j : ℕ = over.0 in
    let below : j < length jobs = omega (arith, over.1) in
    let i : ℕ = (job_at jobs j).task in
    let is : i < length node.tasks = legal.known j below in
    let p : (t : ℕ) × PassesBy node i t = pass i is in
    let in_time : p.0 ≤ limit_of (task_at node.tasks i) = p.1.in_time in
    let v : IsSoundTask node i = (sound node valid).each i is in
    let room = v.late_within in
    let within = v.deadline_within in
    let gap = legal.spaced j k over.1 lt over.2 in
    let same = ap (λ x. (task_at node.tasks x).period) (sym over.2) in
    let early : (job_at jobs k).arrival ≤ (job_at jobs k).ready = legal.not_early k lt in
    let fin = bound_law node jobs valid legal j p.0 below p.1 in
    let later = executed_later node jobs valid legal ((job_at jobs j).arrival + response_by
    (task_at node.tasks i) p.0) (job_at jobs k).ready j (omega arith) in
    omega (arith, over.3)

-- in a passing order each task passes by some time
passes_in : (node : Node) → IsNode node → IsPassingOrder node.tasks node.order → (i : ℕ)
    → i < length node.tasks → (t : ℕ) × PassesBy node i t
passes_in node valid order i lt =
    let p = (stands_above node valid order.each_stands i lt).0 in
    (p.0, record { from_one = omega (arith, p.1); in_time = p.2; enough = p.3 })

pub no_overrun_law : (node : Node) (jobs : List Job) → IsNode node → AreLegalJobs node jobs
    → IsPassingOrder node.tasks node.order → NoOverrun node jobs
no_overrun_law node jobs valid legal order =
    no_overrun_if node jobs valid legal (passes_in node valid order)
