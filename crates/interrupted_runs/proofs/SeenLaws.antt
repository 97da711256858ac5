-- What is seen of a run beside timers and interrupts keeps to the demand.
use Rattle.std.proofs.Common.{ℕ, zero, suc, ◌+◌, ◌<◌, ◌≤◌, ◌≡◌, inl, inr, refl, ap, ◌∙◌, arith}
use Rattle.std.proofs.Common.{if◌then◌else◌, Bool, true, ◌==◌, cond, Option, Some, None}
use Rattle.std.proofs.Common.{List, length, add-zero, add-suc, not}
use Rattle.std.proofs.lemmas.Bool.{cases_lt, cases_Bool, lt-ltb, le-ltb, le-leb, lt-leb}
use Rattle.std.proofs.lemmas.Bool.{eqb-true}
use Rattle.task_sheet.specs.Indexes.{sum_below}
use Rattle.task_sheet.proofs.Common.{blocking_of, interrupts_within}
use Rattle.ceiling_kernel.specs.Tick.{Node, Job, job_at, level_in_order, level_of_job}
use Rattle.ceiling_kernel.specs.Waits.{IsNode, AreLegalJobs}
use Rattle.ceiling_kernel.specs.Bounds.{above_of}
use Rattle.ceiling_kernel.proofs.NodeLaws.{IsSoundTask, sound}
use Rattle.ceiling_kernel.proofs.SumLaws.{total, total-sum, total-le}
use Rattle.ceiling_kernel.proofs.BehaviourLaws.{HasSpans, spans_of}
use Rattle.ceiling_kernel.proofs.MachineLaws.{is_high, rest_at}
use Rattle.ceiling_kernel.proofs.BoundLaws.{rest_most}
use Rattle.interrupted_runs.specs.Interrupted.{ComeWithin, is_taken}
use Rattle.interrupted_runs.specs.Seen.{IsSeen, is_own, is_lower, is_none_of_set, seen_within, IsOpen}
use Rattle.interrupted_runs.specs.Seen.{TakenWithin, SeenKeepsToDemand}
unfoldable use Rattle.interrupted_runs.specs.Interrupted.{executed_beside, taken_before}
use Rattle.interrupted_runs.proofs.ComeLaws.{taken_more, taken_stays, taken_most}
use Rattle.interrupted_runs.proofs.BesideLaws.{beside, ruled, beside_first, beside_taken, beside_ruled}
use Rattle.interrupted_runs.proofs.BesideLaws.{ready_of, cost_of, done, ran, high, rest, machine}
use Rattle.interrupted_runs.proofs.BesideLaws.{of_job, done_of, ruled_parts, ruled_works}
use Rattle.interrupted_runs.proofs.WaitLaws.{low_hit, low_most}
use Rattle.interrupted_runs.proofs.LateLaws.{up_to, up_to-within, sum-same, beside-same, is_taken-same}

module _ (comes : ℕ → ℕ) (node : Node) (jobs : List Job) (counted : ComeWithin comes node) where
  pub taken_within : TakenWithin comes node
  taken_within a t some = taken_most comes (interrupts_within node.tasks t) a t (λ q. counted q t some)

  -- ---- a tick that counts is one that they take, or one of whom the tick rule picks
  abbrev in_ruled : (counts : Option ℕ → Bool) → (t : ℕ) → ℕ
  in_ruled counts t = if is_taken comes t then 0 else cond (counts (ruled comes node jobs t)) 1 0

  taken_ticks : (a t : ℕ) → sum_below t (λ s. cond (is_taken comes (a + s)) 1 0) + taken_before comes a
      ≡ taken_before comes (a + t)
  taken_ticks a zero = rw add-zero (omega arith)
  taken_ticks a (suc t) = rw add-suc (elim (cases_Bool (is_taken comes (a + t))) [
    | inl is ↦ rw is (omega (arith, taken_ticks a t, taken_more comes (a + t) is))
    | inr not ↦ rw not (omega (arith, taken_ticks a t, taken_stays comes (a + t) not))
  ])

  module _ (seen : ℕ → Option ℕ) (is : IsSeen comes node jobs seen) where
    tick-le : (counts : Option ℕ → Bool) (t : ℕ)
        → cond (counts (seen t)) 1 0 ≤ cond (is_taken comes t) 1 0 + in_ruled counts t
    tick-le counts t = elim (cases_Bool (is_taken comes t)) [
      | inl took ↦ rw took (elim (cases_Bool (counts (seen t))) [
        | inl c ↦ rw c (omega arith)
        | inr c ↦ rw c (omega arith)
      ])
      | inr free ↦
          let same : cond (counts (seen t)) 1 0 ≡ cond (counts (ruled comes node jobs t)) 1 0 =
          ap {B = ℕ} (λ o. cond (counts o) 1 0) (is t free) in
          rw free (omega (arith, same))
    ]

    ticks-le : (counts : Option ℕ → Bool) (a t : ℕ) → seen_within counts seen a t
        ≤ sum_below t (λ s. cond (is_taken comes (a + s)) 1 0) + sum_below t (λ s. in_ruled counts (a + s))
    ticks-le counts a zero = omega arith
    ticks-le counts a (suc t) = omega (arith, ticks-le counts a t, tick-le counts (a + t))

    -- those that they take are counted in the demand
    seen-le : (counts : Option ℕ → Bool) (a t : ℕ) → 0 < t → seen_within counts seen a t
        ≤ sum_below t (λ s. in_ruled counts (a + s)) + interrupts_within node.tasks t
    seen-le counts a t some = omega (
      arith,
      ticks-le counts a t,
      taken_ticks a t,
      taken_within a t some,
    )

    -- ---- its own
    own-le : (j t : ℕ) → beside comes node jobs t j ≤ (job_at jobs j).executes
    own-le j zero = omega (arith, beside_first comes node jobs j)
    own-le j (suc t) = elim (cases_Bool (is_taken comes t)) [
      | inl took ↦ omega (arith, beside_taken comes node jobs t j took, own-le j t)
      | inr free ↦ elim (ruled comes node jobs t) as (λ o. ruled comes node jobs t ≡ o
          → beside comes node jobs (suc t) j ≤ (job_at jobs j).executes) [
            | None ↦ λ e.
                let same : beside comes node jobs (suc t) j ≡ beside comes node jobs t j =
                rw (beside_ruled comes node jobs t j free, e) in
                omega (arith, own-le j t)
            | Some p ↦ λ e. elim (cases_Bool (p == j)) [
              | inl own ↦
                  let mine : p ≡ j = eqb-true p j own in
                  let at : ruled comes node jobs t ≡ Some j = rw mine at e in
                  let more : beside comes node jobs (suc t) j ≡ suc (beside comes node jobs t j) =
                  rw (beside_ruled comes node jobs t j free, e, own) (omega arith) in
                  omega (arith, (ruled_parts comes node jobs t j at).2)
              | inr other ↦
                  let same : beside comes node jobs (suc t) j ≡ beside comes node jobs t j =
                  rw (beside_ruled comes node jobs t j free, e, other) in
                  omega (arith, own-le j t)
            ]
          ] refl
    ]

    own_tick : (j t : ℕ) → in_ruled (is_own j) t + beside comes node jobs t j ≤ beside comes node jobs (suc t) j
    own_tick j t = elim (cases_Bool (is_taken comes t)) [
      | inl took ↦ rw took (omega (arith, beside_taken comes node jobs t j took))
      | inr free ↦ elim (ruled comes node jobs t) as (λ o. ruled comes node jobs t ≡ o
          → in_ruled (is_own j) t + beside comes node jobs t j ≤ beside comes node jobs (suc t) j) [
            | None ↦ λ e.
                let same : beside comes node jobs (suc t) j ≡ beside comes node jobs t j =
                rw (beside_ruled comes node jobs t j free, e) in
                rw (free, e) (omega (arith, same))
            | Some p ↦ λ e. elim (cases_Bool (p == j)) [
              | inl own ↦
                  let more : beside comes node jobs (suc t) j ≡ suc (beside comes node jobs t j) =
                  rw (beside_ruled comes node jobs t j free, e, own) (omega arith) in
                  rw (free, e, own) (omega (arith, more))
              | inr other ↦
                  let same : beside comes node jobs (suc t) j ≡ beside comes node jobs t j =
                  rw (beside_ruled comes node jobs t j free, e, other) in
                  rw (free, e, other) (omega (arith, same))
            ]
          ] refl
    ]

    own_ticks : (j a t : ℕ) → sum_below t (λ s. in_ruled (is_own j) (a + s)) + beside comes node jobs a j
        ≤ beside comes node jobs (a + t) j
    own_ticks j a zero = rw add-zero (omega arith)
    own_ticks j a (suc t) = rw add-suc (omega (arith, own_ticks j a t, own_tick j (a + t)))

    -- ---- nobody, while it is open
    nobody_tick : (j u : ℕ) → j < length jobs → (job_at jobs j).ready ≤ u
        → beside comes node jobs u j < (job_at jobs j).executes → in_ruled is_none_of_set u ≡ 0
    nobody_tick j u lt ready lacks = elim (cases_Bool (is_taken comes u)) [
      | inl took ↦ rw took
      | inr free ↦
          let w = ruled_works comes node jobs u j lt ready lacks in
          rw (free, w.1)
    ]

    nobody_ticks : (j a t : ℕ) → IsOpen comes node jobs j a t
        → sum_below t (λ s. in_ruled is_none_of_set (a + s)) ≡ 0
    nobody_ticks j a zero open_ = refl
    nobody_ticks j a (suc t) open_ = omega (
      arith,
      nobody_ticks j a t (record {
        is_job = open_.is_job;
        ready = open_.ready;
        lacks = λ u early. open_.lacks u (omega arith);
      }),
      nobody_tick j (a + t) open_.is_job (omega (arith, open_.ready)) (open_.lacks (a + t) (omega arith)),
    )

  -- ---- those below, while it is open
  module _ (is_node : IsNode node) (legal : AreLegalJobs node jobs) (last : ℕ)
      (none_later : (s : ℕ) → last ≤ s → comes s ≡ 0) where
    spanned : (k : ℕ) → HasSpans node jobs k
    spanned = spans_of node jobs legal.within

    lower_ticks : (j a t : ℕ) → IsOpen comes node jobs j a t
        → sum_below t (λ s. in_ruled (is_lower node jobs j) (a + s))
        ≤ blocking_of node.tasks (job_at jobs j).task (above_of node (job_at jobs j).task)
    lower_ticks j a t open_ =
        let i : ℕ = (job_at jobs j).task in
        let is_task : i < length node.tasks = legal.known j open_.is_job in
        let v : IsSoundTask node i = (sound node is_node).each i is_task in
        let level = level_in_order node i in
        let up = of_job comes node jobs (is_high node jobs level v.level_from_one spanned) (λ s. true) j
        open_.is_job in
        let ready = of_job comes node jobs (λ k. (job_at jobs k).ready) (λ s. s) j open_.is_job in
        let cost = of_job comes node jobs (λ k. (job_at jobs k).executes) comes j open_.is_job in
        let own : (u : ℕ) → done comes node jobs u j ≡ beside comes node jobs u j =
        λ u. of_job comes node jobs (executed_beside comes node jobs u) (done_of comes node jobs u) j open_.is_job in
        let most = low_most (length jobs + last) (ready_of comes node jobs) (cost_of comes node jobs)
        (high comes node jobs level v.level_from_one spanned) (rest comes node jobs level v.level_from_one spanned)
        (done comes node jobs) (ran comes node jobs)
        (machine comes node jobs level v.level_from_one spanned last none_later)
        (blocking_of node.tasks i (above_of node i)) (rest_under i is_task v.level_from_one) j a t
        (omega (arith, open_.is_job)) (up ∙ le-leb level (level_of_job node jobs j) (omega arith))
        (omega (arith, ready, open_.ready))
        (λ u early. omega (arith, own u, cost, open_.lacks u early)) in
        omega (arith, most, hits-le i v.level_from_one j refl a t)
      where
        rest_under : (i : ℕ) → i < length node.tasks → (some : 0 < level_in_order node i) → (k e : ℕ)
            → rest comes node jobs (level_in_order node i) some spanned k e
            ≤ blocking_of node.tasks i (above_of node i)
        rest_under i is_task some k e = elim (cases_lt k (length jobs)) [
          | inl lt ↦ omega (
            arith,
            of_job comes node jobs (λ k. rest_at node jobs (level_in_order node i) some spanned k e) (λ s. 0) k lt,
            rest_most node jobs is_node spanned i is_task some k e,
          )
          | inr past ↦ rw (le-ltb k (length jobs) past) (omega arith)
        ]

        hit-le : (i : ℕ) (some : 0 < level_in_order node i) (j : ℕ) → (job_at jobs j).task ≡ i → (t : ℕ)
            → in_ruled (is_lower node jobs j) t
            ≤ low_hit (length jobs + last) (ready_of comes node jobs) (cost_of comes node jobs)
            (high comes node jobs (level_in_order node i) some spanned)
            (rest comes node jobs (level_in_order node i) some spanned) (done comes node jobs)
            (ran comes node jobs) (machine comes node jobs (level_in_order node i) some spanned last none_later)
            (ran comes node jobs t)
        hit-le i some j mine t = elim (cases_Bool (is_taken comes t)) [
          | inl took ↦ rw took (omega arith)
          | inr free ↦ elim (ruled comes node jobs t) as (λ o. ruled comes node jobs t ≡ o
              → in_ruled (is_lower node jobs j) t
              ≤ low_hit (length jobs + last) (ready_of comes node jobs) (cost_of comes node jobs)
              (high comes node jobs (level_in_order node i) some spanned)
              (rest comes node jobs (level_in_order node i) some spanned) (done comes node jobs)
              (ran comes node jobs) (machine comes node jobs (level_in_order node i) some spanned last none_later)
              (ran comes node jobs t)) [
                | None ↦ λ e. rw (free, e) (omega arith)
                | Some p ↦ λ e.
                    let below : p < length jobs = (ruled_parts comes node jobs t p e).0 in
                    let up = of_job comes node jobs (is_high node jobs (level_in_order node i) some spanned)
                    (λ s. true) p below in
                    let level = ap (level_in_order node) mine in
                    elim (cases_lt (level_of_job node jobs p) (level_of_job node jobs j)) [
                      | inl low ↦ rw (
                        free,
                        e,
                        up,
                        lt-leb (level_in_order node i) (level_of_job node jobs p)
                            (omega (arith, level)),
                        lt-ltb (level_of_job node jobs p) (level_of_job node jobs j) low,
                      )
                          (omega arith)
                      | inr not_low ↦ rw (free, e, le-ltb (level_of_job node jobs p) (level_of_job node jobs j) not_low)
                          (omega arith)
                    ]
              ] refl
        ]

        hits-le : (i : ℕ) (some : 0 < level_in_order node i) (j : ℕ) → (job_at jobs j).task ≡ i → (a t : ℕ)
            → sum_below t (λ s. in_ruled (is_lower node jobs j) (a + s))
            ≤ total (λ s. low_hit (length jobs + last) (ready_of comes node jobs) (cost_of comes node jobs)
            (high comes node jobs (level_in_order node i) some spanned)
            (rest comes node jobs (level_in_order node i) some spanned) (done comes node jobs)
            (ran comes node jobs) (machine comes node jobs (level_in_order node i) some spanned last none_later)
            (ran comes node jobs (a + s))) t
        hits-le i some j mine a t =
            omega (
              arith,
              total-sum (λ s. in_ruled (is_lower node jobs j) (a + s)) t,
              total-le (λ s. in_ruled (is_lower node jobs j) (a + s))
                  (λ s. low_hit (length jobs + last) (ready_of comes node jobs) (cost_of comes node jobs)
                  (high comes node jobs (level_in_order node i) some spanned)
                  (rest comes node jobs (level_in_order node i) some spanned) (done comes node jobs)
                  (ran comes node jobs)
                  (machine comes node jobs (level_in_order node i) some spanned last none_later)
                  (ran comes node jobs (a + s))) t (λ s lt. hit-le i some j mine (a + s)),
            )

-- ---- whatever comes
module _ (comes : ℕ → ℕ) (node : Node) (jobs : List Job) (is_node : IsNode node)
    (legal : AreLegalJobs node jobs) (counted : ComeWithin comes node) where
  -- up to a tick only what comes before it counts
  same_ruled : (last : ℕ) (counts : Option ℕ → Bool) (u : ℕ) → u < last
      → in_ruled (up_to last comes) node jobs (up_to-within last comes node counted) counts u
      ≡ in_ruled comes node jobs counted counts u
  same_ruled last counts u lt =
      rw (is_taken-same last comes u lt, beside-same last comes node jobs u (omega arith))

  open_up_to : (last j a t : ℕ) → a + t ≤ last → IsOpen comes node jobs j a t
      → IsOpen (up_to last comes) node jobs j a t
  open_up_to last j a t le open_ = record {
    is_job = open_.is_job;
    ready = open_.ready;
    lacks = λ u early.
        let same = beside-same last comes node jobs u (omega arith) in
        omega (arith, open_.lacks u early, ap (λ (f : ℕ → ℕ). f j) same);
  }

  pub keeps : (seen : ℕ → Option ℕ) → IsSeen comes node jobs seen → SeenKeepsToDemand comes node jobs seen
  keeps seen is = record {
    own = λ j a t some. omega (
      arith,
      seen-le comes node jobs counted seen is (is_own j) a t some,
      own_ticks comes node jobs counted seen is j a t,
      own-le comes node jobs counted seen is j (a + t),
    );
    blocked = λ j a t some open_.
        let last = a + t in
        let lower = lower_ticks (up_to last comes) node jobs (up_to-within last comes node counted) is_node legal
        last (λ s past. rw (le-ltb s last past)) j a t (open_up_to last j a t (omega arith) open_) in
        let same = sum-same
        (λ s. in_ruled (up_to last comes) node jobs (up_to-within last comes node counted) (is_lower node jobs j) (a + s))
        (λ s. in_ruled comes node jobs counted (is_lower node jobs j) (a + s)) t
        (λ s lt. same_ruled last (is_lower node jobs j) (a + s) (omega arith)) in
        omega (arith, seen-le comes node jobs counted seen is (is_lower node jobs j) a t some, lower, same);
    idle = λ j a t some open_. omega (
      arith,
      seen-le comes node jobs counted seen is is_none_of_set a t some,
      nobody_ticks comes node jobs counted seen is j a t open_,
    );
  }
