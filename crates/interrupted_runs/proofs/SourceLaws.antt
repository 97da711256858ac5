-- What comes of timers and interrupts that are a set's is within what the analysis counts.
use Rattle.std.proofs.Common.{ℕ, zero, suc, ◌+◌, ◌-◌, ◌*◌, ◌/◌, ◌<◌, ◌≤◌, ◌≡◌, inl, inr, refl, sym, ap, ◌∙◌}
use Rattle.std.proofs.Common.{arith, if◌then◌else◌, Bool, true, false, ◌==◌, ◌&&◌, cond}
use Rattle.std.proofs.Common.{List, length, take, get_or, sum_by, nat_le, nat_lt}
use Rattle.std.proofs.lemmas.Bool.{cases_eq, cases_lt, cases_Bool, lt-ltb, le-leb, leb-true, ltb-true}
use Rattle.std.proofs.lemmas.Bool.{and_parts, eq-eqb, eqb-true, ne_eqb, le-ltb}
use Rattle.std.proofs.lemmas.List.Sums.{sum_by_more}
use Rattle.std.proofs.lemmas.List.{take_all}
use Rattle.std.proofs.Math.Nat.{mul-le-mul_right, div-eq_of_lt-le}
use Rattle.std.proofs.lemmas.Grind.{div_ceil_times}
use Rattle.task_sheet.specs.declared.node.Interrupt.{Interrupt}
use Rattle.task_sheet.specs.Sheet.{IsInterrupt}
use Rattle.task_sheet.specs.Demand.{jobs_within, interrupt_within, interrupts_of}
use Rattle.task_sheet.proofs.Common.{task_at, releases_within, interrupts_within}
use Rattle.task_sheet.proofs.TaskLaws.{valid_at}
use Rattle.ceiling_kernel.specs.Tick.{Node, Job, job_at}
use Rattle.ceiling_kernel.specs.Waits.{IsNode, AreLegalJobs}
use Rattle.ceiling_kernel.specs.Bounds.{is_ready_in}
use Rattle.ceiling_kernel.proofs.SumLaws.{total, total-sum, total-le, total-add, total-single}
use Rattle.ceiling_kernel.proofs.SumLaws.{total-same, total-zero}
use Rattle.ceiling_kernel.proofs.WindowLaws.{of_task, by_tasks, most_in_window}
use Rattle.ceiling_kernel.proofs.BoundLaws.{windows_law}
use Rattle.interrupted_runs.specs.Interrupted.{ComeWithin}
use Rattle.interrupted_runs.specs.Sources.{Coming, coming_at, no_interrupt, interrupt_on}
use Rattle.interrupted_runs.specs.Sources.{AreLegalComings, timers_at, interrupts_at, ComeFrom}

-- ---- sums of sums
total-swap : (f : ℕ → ℕ → ℕ) (m n : ℕ)
    → total (λ s. total (f s) n) m ≡ total (λ j. total (λ s. f s j) m) n
unfolding total
total-swap f zero n = sym (total-zero (λ j. 0) n (λ j lt. refl))
total-swap f (suc m) n =
    omega (arith, total-swap f m n, total-add (λ j. total (λ s. f s j) m) (f m) n)

-- by a key of each
by_key : (key g : ℕ → ℕ) (n count : ℕ) → ((c : ℕ) → c < count → key c < n)
    → total g count ≡ total (λ k. total (λ c. if key c == k then g c else 0) count) n
by_key key g n count known =
    total-same g (λ c. total (λ k. if key c == k then g c else 0) n) count
    (λ c lt. sym (total-single (λ h. g c) n (key c) (known c lt)))
    ∙ total-swap (λ c k. if key c == k then g c else 0) count n

-- what comes in one tick, in a window of t ticks from a
in_window : (a t x r : ℕ) → total (λ s. if x == a + s then r else 0) t
    ≤ cond (nat_le a x && nat_lt x (a + t)) r 0
unfolding total
in_window a zero x r = omega arith
in_window a (suc t) x r =
    let before = in_window a t x r in
    elim (cases_eq x (a + t)) [
      | inl e ↦
          let outside : total (λ s. if x == a + s then r else 0) t ≤ cond (nat_le a x && false) r 0 =
          rw (le-ltb x (a + t) (omega arith)) at before in
          let none : total (λ s. if x == a + s then r else 0) t ≤ 0 = elim (cases_Bool (nat_le a x)) [
            | inl t ↦ rw t at outside
            | inr f ↦ rw f at outside
          ] in
          rw (eq-eqb x (a + t) e, le-leb a x (omega arith), lt-ltb x (a + suc t) (omega arith)) (omega arith)
      | inr ne ↦ rw (ne_eqb x (a + t) ne) (elim (cases_lt x (a + t)) [
        | inl lt ↦
            let inside : total (λ s. if x == a + s then r else 0) t ≤ cond (nat_le a x && true) r 0 =
            rw (lt-ltb x (a + t) lt) at before in
            rw (lt-ltb x (a + suc t) (omega arith)) (omega (arith, inside))
        | inr past ↦
            let outside : total (λ s. if x == a + s then r else 0) t ≤ cond (nat_le a x && false) r 0 =
            rw (le-ltb x (a + t) past) at before in
            rw (le-ltb x (a + suc t) (omega (arith, ne))) (omega (arith, outside))
      ])
    ]

-- what comes in each tick of the window, of some
windows : (a t count : ℕ) (time takes : ℕ → ℕ)
    → total (λ s. total (λ j. if time j == a + s then takes j else 0) count) t
    ≤ total (λ j. if nat_le a (time j) && nat_lt (time j) (a + t) then takes j else 0) count
windows a t count time takes =
    let swapped = total-swap (λ s j. if time j == a + s then takes j else 0) t count in
    omega (
      arith,
      swapped,
      total-le (λ j. total (λ s. if time j == a + s then takes j else 0) t)
          (λ j. if nat_le a (time j) && nat_lt (time j) (a + t) then takes j else 0) count
          (λ j lt. in_window a t (time j) (takes j)),
    )

-- the sum over a list, by places
places : (f : Interrupt → ℕ) (xs : List Interrupt) (n : ℕ) → n ≤ length xs
    → total (λ m. f (get_or xs m no_interrupt)) n ≡ sum_by f (take n xs)
unfolding total
places f xs zero le = refl
places f xs (suc n) le =
    let step = sum_by_more f xs n no_interrupt le in
    let next : n + 1 ≡ suc n = omega arith in
    let more : sum_by f (take (suc n) xs) ≡ sum_by f (take n xs) + f (get_or xs n no_interrupt) =
    rw next at step in
    omega (arith, places f xs n (omega arith), more)

module _ (node : Node) (jobs : List Job) (is_node : IsNode node) (legal : AreLegalJobs node jobs) where
  -- ---- timers
  abbrev released : ℕ → ℕ
  released h = (task_at node.tasks h).node.release

  timers_within : (a t : ℕ) → 0 < t → total (λ s. timers_at node jobs (a + s)) t
      ≤ total (λ h. releases_within (task_at node.tasks h) t * released h) (length node.tasks)
  timers_within a t some =
      let count = length jobs in
      let counts = is_ready_in jobs a t in
      omega (
        arith,
        total-same (λ s. timers_at node jobs (a + s))
            (λ s. total (λ j. if (job_at jobs j).ready == a + s then released (job_at jobs j).task else 0) count) t
            (λ s lt. sym (total-sum (λ j. if (job_at jobs j).ready == a + s
            then released (job_at jobs j).task else 0) count)),
        windows a t count (λ j. (job_at jobs j).ready) (λ j. released (job_at jobs j).task),
        by_tasks (λ j. (job_at jobs j).task) (λ j. (job_at jobs j).arrival) counts released
            (length node.tasks) count (λ j lt c. legal.known j lt),
        total-le (λ h. total (of_task (λ j. (job_at jobs j).task) (λ j. (job_at jobs j).arrival) counts h) count
            * released h) (λ h. releases_within (task_at node.tasks h) t * released h) (length node.tasks)
            (λ h lt. mul-le-mul_right (released h) (omega (
              arith,
              total-sum (of_task (λ j. (job_at jobs j).task) (λ j. (job_at jobs j).arrival) counts h) count,
              windows_law node jobs is_node legal h a t lt some,
            ))),
      )

  -- ---- interrupts
  module _ (cs : List Coming) (comings : AreLegalComings node cs) where
    abbrev cost_on : (k m : ℕ) → ℕ
    cost_on k m = (interrupt_on node k m).cost

    abbrev inside : (a t c : ℕ) → Bool
    inside a t c = nat_le a (coming_at cs c).time && nat_lt (coming_at cs c).time (a + t)

    -- of those on the account of task k
    abbrev counts : (a t k c : ℕ) → Bool
    counts a t k c = inside a t c && ((coming_at cs c).task == k)

    parts : (a t k c : ℕ) → counts a t k c ≡ true → (a ≤ (coming_at cs c).time)
        × ((coming_at cs c).time < a + t) × ((coming_at cs c).task ≡ k)
    parts a t k c h =
        let p = and_parts (inside a t c) ((coming_at cs c).task == k) h in
        let q = and_parts (nat_le a (coming_at cs c).time) (nat_lt (coming_at cs c).time (a + t)) p.0 in (
          leb-true a (coming_at cs c).time q.0,
          ltb-true (coming_at cs c).time (a + t) q.1,
          eqb-true (coming_at cs c).task k p.1,
        )

    -- its place among those of task k; past them of another task's
    abbrev place_in : (k c : ℕ) → ℕ
    place_in k c =
        if (coming_at cs c).task == k then (coming_at cs c).place else length (task_at node.tasks k).interrupts

    -- at a place of the task it is the task's
    place_of : (k m c : ℕ) → m < length (task_at node.tasks k).interrupts → place_in k c ≡ m
        → ((coming_at cs c).task ≡ k) × ((coming_at cs c).place ≡ m)
    place_of k m c within e =
        elim (cases_Bool ((coming_at cs c).task == k)) [
          | inl own ↦ (eqb-true (coming_at cs c).task k own, rw own at e)
          | inr other ↦
              let past : length (task_at node.tasks k).interrupts ≡ m = rw other at e in
              absurd (omega arith)
        ]

    of_place : (a t k m : ℕ) → 0 < t → k < length node.tasks
        → m < length (task_at node.tasks k).interrupts
        → total (of_task (place_in k) (λ c. (coming_at cs c).time) (counts a t k) m) (length cs)
        ≤ jobs_within (interrupt_on node k m).period 0 t
    of_place a t k m some lt within =
        let period = (interrupt_on node k m).period in
        let valid : IsInterrupt (interrupt_on node k m) =
        (valid_at node.tasks k is_node.tasks lt).interrupts.valid m no_interrupt within in
        let positive : 0 < period = omega (arith, valid.period_from) in
        let rounded = div_ceil_times (t + 0) period positive in
        let same : (t + period - 1) / period ≡ jobs_within period 0 t =
        div-eq_of_lt-le period (omega (arith, rounded.1)) (omega (arith, rounded.0)) in
        let most = most_in_window (place_in k) (λ c. (coming_at cs c).time) (counts a t k) m
        a t period (length cs) positive some (λ c below h e. (parts a t k c h).0)
        (λ c d before below h ec ed.
        let one = place_of k m c within ec in
        let other = place_of k m d within ed in
        let spaced = comings.spaced c d before below (one.0 ∙ sym other.0) (one.1 ∙ sym other.1) in
        rw (other.0, other.1) at spaced)
        (λ c below h e. (parts a t k c h).1) in
        omega (arith, most, same)

    -- those on the account of task k
    abbrev taken_on : (a t k c : ℕ) → ℕ
    taken_on a t k c = if counts a t k c then cost_on k (place_in k c) else 0

    on_account : (a t k : ℕ) → 0 < t → k < length node.tasks → total (taken_on a t k) (length cs)
        ≤ sum_by (interrupt_within t) (task_at node.tasks k).interrupts
    on_account a t k some lt =
        let xs = (task_at node.tasks k).interrupts in
        let all : take (length xs) xs ≡ xs = take_all (length xs) xs (omega arith) in
        let by_places = places (interrupt_within t) xs (length xs) (omega arith) in
        omega (
          arith,
          by_tasks (place_in k) (λ c. (coming_at cs c).time) (counts a t k) (cost_on k) (length xs) (length cs)
              (λ c below h.
              let own = (parts a t k c h).2 in
              let there = comings.placed c below in
              let placed : (coming_at cs c).place < length (task_at node.tasks k).interrupts = rw own at there in
              rw (eq-eqb (coming_at cs c).task k own) placed),
          total-le (λ m. total (of_task (place_in k) (λ c. (coming_at cs c).time) (counts a t k) m) (length cs)
              * cost_on k m) (λ m. interrupt_within t (interrupt_on node k m)) (length xs)
              (λ m within. mul-le-mul_right (cost_on k m) (of_place a t k m some lt within)),
          by_places,
          ap (sum_by (interrupt_within t)) all,
        )

    interrupts_taken : (a t : ℕ) → 0 < t → total (λ s. interrupts_at node cs (a + s)) t
        ≤ total (λ k. sum_by (interrupt_within t) (task_at node.tasks k).interrupts) (length node.tasks)
    interrupts_taken a t some =
        let count = length cs in
        let cost = λ (c : ℕ). cost_on (coming_at cs c).task (coming_at cs c).place in
        let g = λ (c : ℕ). if inside a t c then cost c else 0 in
        omega (
          arith,
          total-same (λ s. interrupts_at node cs (a + s))
              (λ s. total (λ c. if (coming_at cs c).time == a + s then cost c else 0) count) t
              (λ s lt. sym (total-sum (λ c. if (coming_at cs c).time == a + s then cost c else 0) count)),
          windows a t count (λ c. (coming_at cs c).time) cost,
          by_key (λ c. (coming_at cs c).task) g (length node.tasks) count comings.known,
          total-le (λ k. total (λ c. if (coming_at cs c).task == k then g c else 0) count)
              (λ k. sum_by (interrupt_within t) (task_at node.tasks k).interrupts) (length node.tasks)
              (λ k lt. omega (
                arith,
                on_account a t k some lt,
                total-le (λ c. if (coming_at cs c).task == k then g c else 0) (taken_on a t k) count
                    (λ c below. elim (cases_eq (coming_at cs c).task k) [
                      | inl own ↦ elim (cases_Bool (inside a t c)) [
                        | inl in_ ↦ rw (own, eq-eqb k k refl, in_) (omega arith)
                        | inr out ↦ rw (own, eq-eqb k k refl, out) (omega arith)
                      ]
                      | inr ne ↦ rw (ne_eqb (coming_at cs c).task k ne) (omega arith)
                    ]),
              )),
        )

    pub counted : (comes : ℕ → ℕ) → ComeFrom comes node jobs cs → ComeWithin comes node
    unfolding interrupts_within
    counted comes from a t some =
        omega (
          arith,
          total-sum (λ s. comes (a + s)) t,
          total-le (λ s. comes (a + s)) (λ s. timers_at node jobs (a + s) + interrupts_at node cs (a + s)) t
              (λ s lt. from (a + s)),
          total-add (λ s. timers_at node jobs (a + s)) (λ s. interrupts_at node cs (a + s)) t,
          timers_within a t some,
          interrupts_taken a t some,
          total-add (λ h. releases_within (task_at node.tasks h) t * released h)
              (λ k. sum_by (interrupt_within t) (task_at node.tasks k).interrupts) (length node.tasks),
          total-sum (λ k. interrupts_of t (task_at node.tasks k)) (length node.tasks),
        )
