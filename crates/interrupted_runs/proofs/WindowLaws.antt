-- The busy interval beside timers and interrupts: the jobs that become ready in a window and what comes in it fit into it.
use Rattle.std.proofs.Common.{ℕ, zero, suc, ◌+◌, ◌-◌, ◌*◌, ◌<◌, ◌≤◌, ◌≡◌, inl, inr, ap, ◌∙◌}
use Rattle.std.proofs.Common.{subst, arith, if◌then◌else◌, Bool, true, ◌==◌, ◌&&◌, cond, min}
use Rattle.std.proofs.Common.{List, length, nat_le, nat_lt, add-zero, add-suc}
use Rattle.std.proofs.lemmas.Bool.{cases_eq, cases_lt, cases_Bool, lt-ltb, le-leb, lt-leb, leb-true}
use Rattle.std.proofs.lemmas.Bool.{and_parts, eq-eqb, eqb-true, le-ltb}
use Rattle.std.proofs.Math.Nat.{mul-le-mul_right}
use Rattle.std.proofs.lemmas.Grind.{div_ceil_times}
use Rattle.task_sheet.proofs.Common.{task_at, releases_within, interference_of, demand_of}
use Rattle.task_sheet.proofs.Common.{blocking_of, interrupts_within}
use Rattle.ceiling_kernel.specs.Tick.{Node, Job, job_at, job_task, level_in_order, level_of_job}
use Rattle.ceiling_kernel.specs.Waits.{IsNode, AreLegalJobs}
use Rattle.ceiling_kernel.specs.Bounds.{above_of, is_ready_in, PassesBy}
use Rattle.ceiling_kernel.proofs.NodeLaws.{IsSoundTask, IsSound, sound}
use Rattle.ceiling_kernel.proofs.SumLaws.{total, total-sum, total-le, total-add, total-single}
use Rattle.ceiling_kernel.proofs.SumLaws.{total-zero}
use Rattle.ceiling_kernel.proofs.WindowLaws.{of_task, by_tasks}
use Rattle.ceiling_kernel.proofs.BehaviourLaws.{HasSpans, spans_of}
use Rattle.ceiling_kernel.proofs.MachineLaws.{is_high, rest_at}
use Rattle.ceiling_kernel.proofs.BoundLaws.{windows_law, rest_most}
use Rattle.ceiling_kernel.proofs.Busy.{work, finishes}
use Rattle.interrupted_runs.specs.Interrupted.{ComeWithin}
unfoldable use Rattle.interrupted_runs.specs.Interrupted.{executed_beside, taken_before}
use Rattle.interrupted_runs.proofs.BesideLaws.{of_job, of_piece, ready_of, cost_of, done, ran}
use Rattle.interrupted_runs.proofs.BesideLaws.{high, rest, machine}

-- ---- sums
-- the sum over two parts
total-parts : (f : ℕ → ℕ) (m n : ℕ) → total f (m + n) ≡ total f m + total (λ s. f (m + s)) n
unfolding total
total-parts f m zero = rw add-zero (omega arith)
total-parts f m (suc n) = rw add-suc (omega (arith, total-parts f m n))

-- of what comes in each tick only that of a window
module _ (comes : ℕ → ℕ) (a w : ℕ) where
  abbrev inside : ℕ → ℕ
  inside s = if nat_le a s && nat_lt s (a + w) then comes s else 0

  -- in the first ticks of it comes as much as in a window so long
  inside-le : (last : ℕ) → total inside last ≤ total (λ s. comes (a + s)) (min (last - a) w)
  unfolding total
  inside-le zero = omega arith
  inside-le (suc last) =
      elim (cases_lt last a) [
        | inl before ↦
            let out = lt-leb a last before in
            let none : suc last - a ≡ last - a = omega arith in
            rw (out, none) (omega (arith, inside-le last))
        | inr from ↦ elim (cases_lt last (a + w)) [
          | inl within ↦
              let next : min (suc last - a) w ≡ suc (last - a) = omega arith in
              let now : min (last - a) w ≡ last - a = omega arith in
              let there : a + (last - a) ≡ last = omega arith in
              let before = inside-le last in
              let ih : total inside last ≤ total (λ s. comes (a + s)) (last - a) = rw now at before in
              rw (next, le-leb a last from, lt-ltb last (a + w) within)
              (omega (arith, ih, ap comes there))
          | inr past ↦
              let next : min (suc last - a) w ≡ w = omega arith in
              let now : min (last - a) w ≡ w = omega arith in
              let before = inside-le last in
              let ih : total inside last ≤ total (λ s. comes (a + s)) w = rw now at before in
              rw (next, le-ltb last (a + w) past) (elim (cases_Bool (nat_le a last)) [
                | inl t ↦ rw t (omega (arith, ih))
                | inr f ↦ rw f (omega (arith, ih))
              ])
        ]
      ]

-- the first ticks of a window have no more than the whole
total-grows : (f : ℕ → ℕ) (n k : ℕ) → total f n ≤ total f (n + k)
unfolding total
total-grows f n zero = rw add-zero (omega arith)
total-grows f n (suc k) = rw add-suc (omega (arith, total-grows f n k))

module _ (comes : ℕ → ℕ) (node : Node) (jobs : List Job) (is_node : IsNode node)
    (legal : AreLegalJobs node jobs) (counted : ComeWithin comes node) where
  valid : IsSound node
  valid = sound node is_node

  spanned : (j : ℕ) → HasSpans node jobs j
  spanned = spans_of node jobs legal.within

  -- what comes in a window, of all that comes before a tick
  comes_within : (a w last : ℕ) → 0 < w → total (inside comes a w) last ≤ interrupts_within node.tasks w
  comes_within a w last some =
      let short : min (last - a) w + (w - min (last - a) w) ≡ w = omega arith in
      let more : total (λ s. comes (a + s)) (min (last - a) w) ≤ total (λ s. comes (a + s)) w =
      subst (λ x. total (λ s. comes (a + s)) (min (last - a) w) ≤ total (λ s. comes (a + s)) x) short
      (total-grows (λ s. comes (a + s)) (min (last - a) w) (w - min (last - a) w)) in
      omega (
        arith,
        inside-le comes a w last,
        more,
        total-sum (λ s. comes (a + s)) w,
        counted a w some,
      )

  module _ (i t : ℕ) (is : i < length node.tasks) (passes : PassesBy node i t) where
    abbrev level : ℕ
    level = level_in_order node i

    level_some : 0 < level
    level_some = (valid.each i is).level_from_one

    -- job j is high, and becomes ready in the window of t ticks from a
    abbrev counts : ℕ → ℕ → Bool
    counts a j = nat_le level (level_of_job node jobs j) && is_ready_in jobs a t j

    abbrev number : ℕ → ℕ → ℕ
    number a h = total (of_task (λ j. (job_at jobs j).task) (λ j. (job_at jobs j).arrival)
        (counts a) h) (length jobs)

    -- of the jobs of a task no more count than become ready in the window
    number-le : (a h : ℕ) → h < length node.tasks → number a h ≤ releases_within (task_at node.tasks h) t
    number-le a h lt =
        let ready = total-sum (of_task (λ j. (job_at jobs j).task) (λ j. (job_at jobs j).arrival)
        (is_ready_in jobs a t) h) (length jobs) in
        omega (
          arith,
          total-le (of_task (λ j. (job_at jobs j).task) (λ j. (job_at jobs j).arrival) (counts a) h)
              (of_task (λ j. (job_at jobs j).task) (λ j. (job_at jobs j).arrival)
              (is_ready_in jobs a t) h) (length jobs) (λ j below.
              elim (cases_Bool (nat_le level (level_of_job node jobs j))) [
                | inl up ↦ rw up (omega arith)
                | inr down ↦ rw down (omega arith)
              ]),
          ready,
          windows_law node jobs is_node legal h a t lt passes.from_one,
        )

    number-zero : (a h : ℕ) → level_in_order node h < level → number a h ≡ 0
    number-zero a h low =
        total-zero (of_task (λ j. (job_at jobs j).task) (λ j. (job_at jobs j).arrival) (counts a) h)
        (length jobs) (λ j lt.
        elim (cases_Bool (counts a j && ((job_at jobs j).task == h))) [
          | inr out ↦ rw out
          | inl both ↦
              let p = and_parts (counts a j) ((job_at jobs j).task == h) both in
              let q = and_parts (nat_le level (level_of_job node jobs j)) (is_ready_in jobs a t j) p.0 in
              absurd (omega (
                arith,
                leb-true level (level_of_job node jobs j) q.0,
                ap (λ x. level_in_order node x) (eqb-true (job_at jobs j).task h p.1),
              ))
        ])

    -- one term of the demand
    abbrev own_term : ℕ → ℕ
    own_term h = if i == h then (task_at node.tasks h).cost else 0

    abbrev higher_term : ℕ → ℕ
    higher_term h = if above_of node i h then interference_of (task_at node.tasks h) t else 0

    -- of the task itself one job at most
    number-own : (a : ℕ) → number a i ≤ 1
    number-own a =
        let v : IsSoundTask node i = valid.each i is in
        let b = div_ceil_times (t + (task_at node.tasks i).jitter) (task_at node.tasks i).period
        v.period_from_one in
        let room = v.late_within in
        let within = v.deadline_within in
        let one : releases_within (task_at node.tasks i) t < 2 =
        elim (cases_lt (releases_within (task_at node.tasks i) t) 2) [
          | inl lt ↦ lt
          | inr two ↦ absurd (omega (
            arith,
            b.0,
            passes.in_time,
            mul-le-mul_right (task_at node.tasks i).period two,
          ))
        ] in
        omega (arith, number-le a i is)

    term-le : (a h : ℕ) → h < length node.tasks
        → number a h * (task_at node.tasks h).cost ≤ own_term h + higher_term h
    term-le a h lt =
        elim (cases_lt (level_in_order node h) level) [
          | inl low ↦ (let none : number a h ≡ 0 = number-zero a h low in rw none (omega arith))
          | inr at_least ↦ elim (cases_eq i h) [
            | inl e ↦
                let one : number a h ≤ 1 = subst (λ x. number a x ≤ 1) e (number-own a) in
                rw (eq-eqb i h e) (omega (arith, mul-le-mul_right (task_at node.tasks h).cost one))
            | inr ne ↦ elim (cases_eq (level_in_order node i) (level_in_order node h)) [
              | inl same ↦ absurd (ne (valid.levels_differ i h is lt same))
              | inr differ ↦
                  let above : above_of node i h ≡ true = lt-ltb level (level_in_order node h) (omega arith) in
                  let most = number-le a h lt in
                  rw above (omega (arith, mul-le-mul_right (task_at node.tasks h).cost most))
            ]
          ]
        ]

    -- ---- what is to be done in a window of jobs, and of pieces
    module _ (last : ℕ) (none_later : (s : ℕ) → last ≤ s → comes s ≡ 0) where
      abbrev window_work : ℕ → ℕ → ℕ
      window_work a j = work (length jobs + last) (ready_of comes node jobs) (cost_of comes node jobs)
          (high comes node jobs level level_some spanned) (rest comes node jobs level level_some spanned)
          (done comes node jobs) (ran comes node jobs)
          (machine comes node jobs level level_some spanned last none_later) a (a + t) j

      job_work : (a j : ℕ) → j < length jobs
          → window_work a j ≤ cond (counts a j) (job_task node jobs j).cost 0
      job_work a j lt =
          let ready = of_job comes node jobs (λ j. (job_at jobs j).ready) (λ s. s) j lt in
          let cost = of_job comes node jobs (λ j. (job_at jobs j).executes) comes j lt in
          let up = of_job comes node jobs (is_high node jobs level level_some spanned) (λ s. true) j lt in
          let most : (job_at jobs j).executes ≤ (job_task node jobs j).cost = (legal.within j lt).executes in
          rw (up, ready, cost) (elim (cases_Bool (nat_le level (level_of_job node jobs j))) [
            | inl high ↦ rw high (elim (cases_Bool (is_ready_in jobs a t j)) [
              | inl in_ ↦ rw in_ (omega arith)
              | inr out ↦ rw out (omega arith)
            ])
            | inr low ↦ rw low (omega arith)
          ])

      piece_work : (a s : ℕ) → window_work a (length jobs + s) ≡ inside comes a t s
      piece_work a s =
          let ready = of_piece comes node jobs (λ j. (job_at jobs j).ready) (λ s. s) s in
          let cost = of_piece comes node jobs (λ j. (job_at jobs j).executes) comes s in
          let up = of_piece comes node jobs (is_high node jobs level level_some spanned) (λ s. true) s in
          rw (up, ready, cost)

      jobs_fit : (a : ℕ) → total (window_work a) (length jobs)
          ≤ (task_at node.tasks i).cost + total higher_term (length node.tasks)
      jobs_fit a =
          omega (
            arith,
            total-le (window_work a) (λ j. if counts a j then (job_task node jobs j).cost else 0)
                (length jobs) (job_work a),
            by_tasks (λ j. (job_at jobs j).task) (λ j. (job_at jobs j).arrival) (counts a)
                (λ h. (task_at node.tasks h).cost) (length node.tasks) (length jobs)
                (λ j lt c. legal.known j lt),
            total-le (λ h. number a h * (task_at node.tasks h).cost) (λ h. own_term h + higher_term h)
                (length node.tasks) (term-le a),
            total-add own_term higher_term (length node.tasks),
            total-single (λ h. (task_at node.tasks h).cost) (length node.tasks) i is,
          )

      pieces_fit : (a : ℕ) → total (λ s. window_work a (length jobs + s)) last
          ≤ interrupts_within node.tasks t
      pieces_fit a = omega (
        arith,
        total-le (λ s. window_work a (length jobs + s)) (inside comes a t) last
            (λ s lt. omega (arith, piece_work a s)),
        comes_within a t last passes.from_one,
      )

      fits : (a : ℕ) → total (window_work a) (length jobs + last)
          + (blocking_of node.tasks i (above_of node i) - 1) ≤ t
      unfolding demand_of
      fits a =
          let enough = passes.enough in
          omega (
            arith,
            enough,
            total-parts (window_work a) (length jobs) last,
            jobs_fit a,
            pieces_fit a,
            total-sum higher_term (length node.tasks),
          )

      rest_most_of : (j e : ℕ) → rest comes node jobs level level_some spanned j e
          ≤ blocking_of node.tasks i (above_of node i) - 1
      rest_most_of j e = elim (cases_lt j (length jobs)) [
        | inl lt ↦ omega (
          arith,
          of_job comes node jobs (λ k. rest_at node jobs level level_some spanned k e) (λ s. 0) j lt,
          rest_most node jobs is_node spanned i is level_some j e,
        )
        | inr past ↦ rw (le-ltb j (length jobs) past) (omega arith)
      ]

      -- a job of the task finishes within t ticks after it is ready
      pub within_bound : (j : ℕ) → j < length jobs → (job_at jobs j).task ≡ i
          → (job_at jobs j).executes ≤ executed_beside comes node jobs ((job_at jobs j).ready + t) j
      within_bound j lt mine =
          let same : level_of_job node jobs j ≡ level = ap (λ x. level_in_order node x) mine in
          let ready = of_job comes node jobs (λ j. (job_at jobs j).ready) (λ s. s) j lt in
          let cost = of_job comes node jobs (λ j. (job_at jobs j).executes) comes j lt in
          let up = of_job comes node jobs (is_high node jobs level level_some spanned) (λ s. true) j lt in
          let fin = finishes (length jobs + last) (ready_of comes node jobs) (cost_of comes node jobs)
          (high comes node jobs level level_some spanned) (rest comes node jobs level level_some spanned)
          (done comes node jobs) (ran comes node jobs)
          (machine comes node jobs level level_some spanned last none_later)
          t (blocking_of node.tasks i (above_of node i) - 1) passes.from_one rest_most_of fits j
          (omega arith) (up ∙ le-leb level (level_of_job node jobs j) (omega arith)) in
          rw (ready, cost, lt-ltb j (length jobs) lt) at fin
