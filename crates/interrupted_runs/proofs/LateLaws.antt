-- What comes late changes nothing before it comes; so the bound holds whatever comes.
use Rattle.std.proofs.Common.{ℕ, zero, suc, ◌+◌, ◌-◌, ◌<◌, ◌≤◌, ◌≡◌, inl, inr, refl, sym, ap, subst, arith}
use Rattle.std.proofs.Common.{if◌then◌else◌, false, ◌==◌, List, length, nat_lt, Option, Some, None}
use Rattle.std.proofs.Common.{add-zero, add-suc}
use Rattle.std.proofs.lemmas.Bool.{cases_Bool, lt-ltb, le-ltb}
use Rattle.std.proofs.Math.Path.{fun_ext}
use Rattle.task_sheet.specs.Indexes.{sum_below}
use Rattle.task_sheet.proofs.Common.{task_at, IsPassingOrder}
use Rattle.ceiling_kernel.specs.Tick.{Node, Job, job_at, job_task, one_more, pick}
unfoldable use Rattle.ceiling_kernel.specs.Tick.{executed_before}
use Rattle.ceiling_kernel.specs.Waits.{IsNode, AreLegalJobs}
use Rattle.ceiling_kernel.specs.Bounds.{PassesBy, response_by}
use Rattle.ceiling_kernel.proofs.NodeLaws.{IsSoundTask, sound, stands_above}
use Rattle.ceiling_kernel.proofs.BoundLaws.{responses_law}
use Rattle.interrupted_runs.specs.Interrupted.{ComeWithin, come_before, is_taken}
use Rattle.interrupted_runs.specs.Interrupted.{BoundHoldsBeside, NoneOverruns, ResponsesHoldBeside}
unfoldable use Rattle.interrupted_runs.specs.Interrupted.{executed_beside, taken_before}
use Rattle.interrupted_runs.proofs.WindowLaws.{within_bound}

-- ---- sums
sum-le : (f g : ℕ → ℕ) → ((s : ℕ) → f s ≤ g s) → (n : ℕ) → sum_below n f ≤ sum_below n g
sum-le f g less zero = omega arith
sum-le f g less (suc n) = omega (arith, sum-le f g less n, less n)

pub sum-same : (f g : ℕ → ℕ) (n : ℕ) → ((s : ℕ) → s < n → f s ≡ g s) → sum_below n f ≡ sum_below n g
sum-same f g zero same = refl
sum-same f g (suc n) same = omega (arith, sum-same f g n (λ s lt. same s (omega arith)), same n (omega arith))

sum-zero : (n : ℕ) → sum_below n (λ s. 0) ≡ 0
sum-zero zero = refl
sum-zero (suc n) = omega (arith, sum-zero n)

-- ---- what comes before a tick alone
abbrev pub up_to : (last : ℕ) → (comes : ℕ → ℕ) → ℕ → ℕ
up_to last comes s = if nat_lt s last then comes s else 0

up_to-le : (last : ℕ) (comes : ℕ → ℕ) (s : ℕ) → up_to last comes s ≤ comes s
up_to-le last comes s = elim (cases_Bool (nat_lt s last)) [
  | inl t ↦ rw t (omega arith)
  | inr f ↦ rw f (omega arith)
]

pub up_to-within : (last : ℕ) (comes : ℕ → ℕ) (node : Node) → ComeWithin comes node
    → ComeWithin (up_to last comes) node
up_to-within last comes node counted a t some =
    let less = sum-le (λ s. up_to last comes (a + s)) (λ s. comes (a + s))
    (λ s. up_to-le last comes (a + s)) t in
    omega (arith, less, counted a t some)

module _ (last : ℕ) (comes : ℕ → ℕ) where
  come-same : (t : ℕ) → t ≤ last → come_before (up_to last comes) t ≡ come_before comes t
  come-same t le = sum-same (up_to last comes) comes t (λ s lt. rw (lt-ltb s last (omega arith)))

  taken-same : (t : ℕ) → t ≤ last → taken_before (up_to last comes) t ≡ taken_before comes t
  unfolding taken_before
  taken-same zero le = refl
  taken-same (suc t) le =
      let before = taken-same t (omega arith) in
      rw (before, come-same (suc t) le)

  pub is_taken-same : (t : ℕ) → t < last → is_taken (up_to last comes) t ≡ is_taken comes t
  is_taken-same t lt = rw (taken-same t (omega arith), come-same (suc t) lt)

  module _ (node : Node) (jobs : List Job) where
    pub beside-same : (t : ℕ) → t ≤ last
        → executed_beside (up_to last comes) node jobs t ≡ executed_beside comes node jobs t
    unfolding executed_beside
    beside-same zero le = refl
    beside-same (suc t) le =
        let before = beside-same t (omega arith) in
        let same = is_taken-same t le in
        fun_ext (λ j. rw (same, before))

-- a tick takes nothing back
more : (o : Option ℕ) (executed : ℕ → ℕ) (j : ℕ) → executed j ≤ one_more o executed j
more None executed j = omega arith
more (Some p) executed j = elim (cases_Bool (p == j)) [
  | inl t ↦ rw t (omega arith)
  | inr f ↦ rw f (omega arith)
]

module _ (comes : ℕ → ℕ) (node : Node) (jobs : List Job) where
  -- a job executes no less later on
  beside_grows : (t j : ℕ) → executed_beside comes node jobs t j ≤ executed_beside comes node jobs (suc t) j
  unfolding executed_beside
  beside_grows t j =
      elim (cases_Bool (is_taken comes t)) [
        | inl is ↦ rw is (omega arith)
        | inr not ↦ rw not (more (pick node jobs (executed_beside comes node jobs t) t)
            (executed_beside comes node jobs t) j)
      ]

  beside_after : (t k j : ℕ) → executed_beside comes node jobs t j ≤ executed_beside comes node jobs (t + k) j
  beside_after t zero j = rw add-zero (omega arith)
  beside_after t (suc k) j = rw add-suc (omega (arith, beside_after t k j, beside_grows (t + k) j))

  pub beside_later : (t u j : ℕ) → t ≤ u → executed_beside comes node jobs t j ≤ executed_beside comes node jobs u j
  beside_later t u j le =
      let there : t + (u - t) ≡ u = omega arith in
      subst (λ x. executed_beside comes node jobs t j ≤ executed_beside comes node jobs x j) there
      (beside_after t (u - t) j)

  module _ (is_node : IsNode node) (legal : AreLegalJobs node jobs) (counted : ComeWithin comes node) where
    -- from when it is ready
    from_ready : (j t : ℕ) → j < length jobs → PassesBy node (job_at jobs j).task t
        → (job_at jobs j).executes ≤ executed_beside comes node jobs ((job_at jobs j).ready + t) j
    from_ready j t lt passes =
        let last = (job_at jobs j).ready + t in
        let fin = within_bound (up_to last comes) node jobs is_node legal (up_to-within last comes node counted)
        (job_at jobs j).task t (legal.known j lt) passes last
        (λ s past. rw (le-ltb s last past)) j lt refl in
        let same = beside-same last comes node jobs last (omega arith) in
        omega (arith, fin, ap (λ (f : ℕ → ℕ). f j) same)

    pub bound_law : BoundHoldsBeside comes node jobs
    bound_law j t lt passes =
        let by = legal.not_late j lt in
        let later = beside_later ((job_at jobs j).ready + t)
        ((job_at jobs j).arrival + response_by (job_task node jobs j) t) j (omega arith) in
        omega (arith, from_ready j t lt passes, later)

    pub responses_hold : ResponsesHoldBeside comes node jobs
    responses_hold j r lt response within =
        let found = responses_law node (job_at jobs j).task r response within in
        omega (
          arith,
          bound_law j found.0 lt found.1,
          ap (λ x. executed_beside comes node jobs
              ((job_at jobs j).arrival + x) j) found.2,
        )

    pub no_overrun_law : IsPassingOrder node.tasks node.order → NoneOverruns comes node jobs
    no_overrun_law order j k before lt same =
        let below : j < length jobs = omega arith in
        let i : ℕ = (job_at jobs j).task in
        let is : i < length node.tasks = legal.known j below in
        let p = (stands_above node is_node order.each_stands i is).0 in
        let passes : PassesBy node i p.0 = record { from_one = omega (arith, p.1); in_time = p.2; enough = p.3 } in
        let v : IsSoundTask node i = (sound node is_node).each i is in
        let room = v.late_within in
        let within = v.deadline_within in
        let gap = legal.spaced j k before lt same in
        let period = ap (λ x. (task_at node.tasks x).period) (sym same) in
        let early = legal.not_early k lt in
        let by = legal.not_late j below in
        let later = beside_later ((job_at jobs j).ready + p.0) (job_at jobs k).ready j
        (omega (arith, p.2)) in
        omega (arith, from_ready j p.0 below passes, later)

-- ---- where none comes
module _ (node : Node) (jobs : List Job) where
  none_taken : (t : ℕ) → taken_before (λ s. 0) t ≡ 0
  unfolding taken_before
  none_taken zero = refl
  none_taken (suc t) = rw (none_taken t, sum-zero t)

  never_taken : (t : ℕ) → is_taken (λ s. 0) t ≡ false
  never_taken t = rw (none_taken t, sum-zero t)

  pub as_ruled : (t : ℕ) → executed_beside (λ s. 0) node jobs t ≡ executed_before node jobs t
  unfolding executed_beside executed_before
  as_ruled zero = refl
  as_ruled (suc t) =
      let before = as_ruled t in
      fun_ext (λ j. rw (never_taken t, before))

  pub as_ruled_law : (t j : ℕ) → executed_beside (λ s. 0) node jobs t j ≡ executed_before node jobs t j
  as_ruled_law t j = ap (λ (f : ℕ → ℕ). f j) (as_ruled t)
