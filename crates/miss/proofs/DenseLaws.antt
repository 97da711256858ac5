-- In each window from the instant as many jobs of a stream become ready as the analysis counts.
use Rattle.std.proofs.Common.{◌≡◌, ℕ, zero, suc, ◌+◌, ◌-◌, ◌*◌, ◌<◌, ◌≤◌, inl, inr, true}
use Rattle.std.proofs.Common.{◌&&◌, ◌==◌, nat_le, nat_lt, List, length, refl, ◌∙◌, ap, subst}
use Rattle.std.proofs.Common.{if◌then◌else◌, arith}
use Rattle.std.specs.Prelude.{unwrap_or}
use Rattle.std.proofs.Math.Nat.{mul-le-mul_right}
use Rattle.std.proofs.lemmas.Grind.{div_ceil_times}
use Rattle.std.proofs.lemmas.Bool.{cases_eq, cases_lt, le-leb, lt-ltb, eq-eqb, ne_eqb}
use Rattle.task_sheet.proofs.Common.{Task, IsValidSheet, no_task, task_at, IsTaskSet}
use Rattle.task_sheet.proofs.Common.{releases_within}
use Rattle.ceiling_kernel.specs.declared.trace.Release.{Release}
use Rattle.ceiling_kernel.proofs.Common.{Job, job_at, lateness_of, ready_within, task_named}
use Rattle.ceiling_kernel.proofs.Common.{task_number, job_of, jobs_of, release_at, ready_of}
use Rattle.ceiling_kernel.specs.Bounds.{is_ready_in}
use Rattle.ceiling_kernel.proofs.ReleaseLaws.{job_is, jobs_length}
use Rattle.ceiling_kernel.proofs.SumLaws.{total, total-sum}
use Rattle.release_list.proofs.TaskNumbers.{found}
use Rattle.release_list.specs.declared.stream.Stream.{Stream}
use Rattle.release_list.specs.Streams.{stream_at, list_of, arrival_of, job_release}
use Rattle.release_list.proofs.JobLaws.{order_at, job_in}
use Rattle.release_list.proofs.FitLaws.{AreFit, some_period}

total-more : (g : ℕ → ℕ) (m d : ℕ) → total g m ≤ total g (m + d)
unfolding total
total-more g m zero =
    (let z : m ≡ m + 0 = omega arith in subst (λ x. total g m ≤ total g x) z (omega arith))
total-more g m (suc d) =
    let ih = total-more g m d in
    let z : suc (m + d) ≡ m + suc d = omega arith in
    subst (λ x. total g m ≤ total g x) z (omega arith)

total-grows : (g : ℕ → ℕ) (m n : ℕ) → m ≤ n → total g m ≤ total g n
total-grows g m n le =
    let z : m + (n - m) ≡ n = omega arith in
    subst (λ x. total g m ≤ total g x) z (total-more g m (n - m))

total-next : (g : ℕ → ℕ) (n : ℕ) → total g (suc n) ≡ total g n + g n
unfolding total
total-next g n = refl

-- m rising places that count 1 come to m at least
many : (g : ℕ → ℕ) (m n : ℕ) (at : (k : ℕ) → k < m → (p : ℕ) × (p < n) × (g p ≡ 1))
    → ((j k : ℕ) (lj : j < m) (lk : k < m) → j < k → (at j lj).0 < (at k lk).0) → m ≤ total g n
many g zero n at rises = omega arith
many g (suc m) n at rises =
    let here : m < suc m = omega arith in
    let up : (k : ℕ) → k < m → k < suc m = λ k lt. omega (arith, lt) in
    let last = at m here in
    let before = many g m last.0
    (λ k lt. ((at k (up k lt)).0, rises k m (up k lt) here lt, (at k (up k lt)).2))
    (λ j k lj lk less. rises j k (up j lj) (up k lk) less) in
    let step = total-next g last.0 in
    let all = total-grows g (suc last.0) n last.1 in
    omega (arith, last.2)

module _ (U : List Task) (set : IsTaskSet U) (ss : List Stream) (index : ℕ → ℕ)
    (fit : AreFit U ss index) (until : ℕ) where
  abbrev rs : List Release
  rs = list_of ss until

  -- where a stream is that of a task whose jobs come as early as they may, the first at the instant
  module _ (q instant : ℕ) (lt : q < length ss)
      (period_is : (stream_at ss q).period ≡ (task_at U (index q)).period)
      (late_is : (stream_at ss q).late ≡ lateness_of (task_at U (index q)))
      (first_is : (stream_at ss q).first + lateness_of (task_at U (index q)) ≡ instant) where
    abbrev h : ℕ
    h = index q

    abbrev s : Stream
    s = stream_at ss q

    in_set : h < length U
    in_set = (let f = fit.each q lt in f.in_set)

    sheet : IsValidSheet (task_at U h)
    sheet = set.valid h no_task in_set

    job_number : (k : ℕ) → task_number U (job_release s k) ≡ h
    job_number k =
        let f = fit.each q lt in
        ap (λ x. unwrap_or x (length U)) (ap (task_named U) f.named ∙ found U set.distinct h in_set)

    abbrev ready : ℕ → ℕ
    ready k = ready_of (job_release s k)

    ready_cases : (k : ℕ) → (instant ≤ ready k) × (ready k ≤ instant + k * (task_at U h).period)
    ready_cases k =
        let v = sheet in
        let p = ap (λ x. k * x) period_is in
        elim (cases_eq k 0) [
          | inl first ↦
              let e = eq-eqb k 0 first in
              let n = ap (λ x. x * (task_at U h).period) first in
              rw e (omega (arith, p, late_is, first_is), omega (arith, p, late_is, first_is))
          | inr later ↦
              let e = ne_eqb k 0 later in
              let one : 1 * (task_at U h).period ≤ k * (task_at U h).period =
              mul-le-mul_right (task_at U h).period (omega arith) in
              rw e (
                omega (arith, p, one, first_is, v.jitter, v.deadline_to),
                omega (arith, p, first_is),
              )
        ]

    ready_before : (k t : ℕ) → 0 < t → k < releases_within (task_at U h) t → ready k < instant + t
    ready_before k t some less =
        let v = sheet in
        let n : ℕ = releases_within (task_at U h) t in
        let b = div_ceil_times (t + lateness_of (task_at U h)) (task_at U h).period
        (omega (arith, v.period_from)) in
        let up : (k + 1) * (task_at U h).period ≤ n * (task_at U h).period =
        mul-le-mul_right (task_at U h).period (omega arith) in
        let step : (k + 1) * (task_at U h).period
        ≡ k * (task_at U h).period + (task_at U h).period = omega arith in
        let p = ap (λ x. k * x) period_is in
        elim (cases_eq k 0) [
          | inl first ↦
              let z = ap (λ x. x * (task_at U h).period) first in
              let c = ready_cases k in
              omega (arith, c.1, z)
          | inr later ↦
              let z = ne_eqb k 0 later in
              let e : (job_release s k).late ≡ 0 = rw z refl in
              omega (arith, b.1, up, step, p, e, first_is)
        ]

    abbrev counts : ℕ → ℕ → ℕ
    counts t j = if is_ready_in (jobs_of U rs) instant t j
        && ((job_at (jobs_of U rs) j).task == h) then 1 else 0

    abbrev Counted : ℕ → ℕ → Type 0
    Counted t k = (p : ℕ) × (p < length (jobs_of U rs)) × (counts t p ≡ 1)
        × (release_at rs p ≡ job_release s k)

    counted : (t k : ℕ) → 0 < t → instant + t ≤ until → k < releases_within (task_at U h) t
        → Counted t k
    counted t k some within less =
        let early = ready_before k t some less in
        let c = ready_cases k in
        let found_at = job_in ss until (some_period set fit) q k lt (omega (arith, early, within))
        in
        let p : ℕ = found_at.0 in
        let job = job_is U rs p found_at.1
        ∙ ap (job_of U) found_at.2 in
        let a : nat_le instant (ready k) ≡ true = le-leb instant (ready k) c.0 in
        let b : nat_lt (ready k) (instant + t) ≡ true = lt-ltb (ready k) (instant + t) early in
        let e = eq-eqb (task_number U (job_release s k)) h (job_number k) in
        let one : ◌≡◌ {A = ℕ} (if (nat_le instant (ready k) && nat_lt (ready k) (instant + t))
        && (task_number U (job_release s k) == h) then 1 else 0) 1 = rw (a, b, e) refl in
        let long = jobs_length U rs in (
          p,
          omega (arith, found_at.1, long),
          ap (λ (x : Job). let n : ℕ =
              (if (nat_le instant x.ready && nat_lt x.ready (instant + t))
              && (x.task == h) then 1 else 0) in n) job ∙ one,
          found_at.2,
        )

    rises : (t j k : ℕ) (x : Counted t j) (y : Counted t k) → j < k → x.0 < y.0
    rises t j k x y less =
        let v = sheet in
        let up : (j + 1) * s.period ≤ k * s.period = mul-le-mul_right s.period (omega arith) in
        let step : (j + 1) * s.period ≡ j * s.period + s.period = omega arith in
        let some = some_period set fit q lt in
        let apart : arrival_of s j < arrival_of s k = omega arith in
        let tx = ap (λ (r : Release). r.time) x.3 in
        let ty = ap (λ (r : Release). r.time) y.3 in
        elim (cases_lt x.0 y.0) [
          | inl before ↦ before
          | inr not ↦ elim (cases_eq x.0 y.0) [
            | inl same ↦ (let e = ap (λ p. (release_at rs p).time) same in absurd (omega arith))
            | inr differ ↦
                let long = jobs_length U rs in
                let o = order_at ss until y.0 x.0 (omega arith) (omega (arith, x.1, long)) in
                let le : (release_at rs y.0).time ≤ (release_at rs x.0).time =
                elim o.4 [
                  | inl early ↦ omega (arith, early)
                  | inr tie ↦ omega (arith, tie.0)
                ] in
                absurd (omega arith)
          ]
        ]

    pub dense : (t : ℕ) → 0 < t → instant + t ≤ until
        → releases_within (task_at U h) t ≤ ready_within (jobs_of U rs) h instant t
    dense t some within =
        let m = many (counts t) (releases_within (task_at U h) t) (length (jobs_of U rs))
        (λ k less. (let c : Counted t k = counted t k some within less in (c.0, c.1, c.2)))
        (λ j k lj lk less. rises t j k (counted t j some within lj) (counted t k some within lk)
        less) in
        let sum = total-sum (counts t) (length (jobs_of U rs)) in
        omega arith
