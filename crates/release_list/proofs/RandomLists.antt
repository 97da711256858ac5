-- What a random list holds, and in which order; a kernel refuses none.
use Rattle.std.proofs.Common.{◌≡◌, ℕ, zero, suc, ◌+◌, ◌<◌, ◌≤◌, inl, inr, ◌==◌, nat_lt, None, List}
use Rattle.std.proofs.Common.{[], ◌∷◌, length, sym, ◌∙◌, ap, subst, arith}
use Rattle.std.specs.Prelude.{unwrap_or}
use Rattle.std.proofs.lemmas.Bool.{cases_Bool, cases_eq, lt-ltb}
use Rattle.task_sheet.proofs.Common.{Task, IsValidSheet, no_task, task_at, IsTaskSet}
use Rattle.ceiling_kernel.specs.declared.trace.Release.{Release}
use Rattle.ceiling_kernel.proofs.Common.{lateness_of, task_named, task_number, ready_of, no_release}
use Rattle.ceiling_kernel.proofs.Common.{refusal_of}
use Rattle.release_list.specs.Random.{word_after, word_before, drawn, late_after, runs_after}
use Rattle.release_list.specs.Random.{pace_of, word_of, random_release, jobs_within, jobs_by_rank, all_jobs}
use Rattle.release_list.specs.Random.{random_of, IsRandomJob, IsRandomList}
use Rattle.release_list.specs.declared.random_list.Pace.{Pace}
use Rattle.release_list.specs.declared.steady.SteadyTask.{SteadyTask}
use Rattle.release_list.proofs.TaskNumbers.{found}
use Rattle.release_list.proofs.InLaws.{In, here, Pairs, none, in_at, place_of, pairs_at, pairs_with}
use Rattle.release_list.proofs.InLaws.{in_front, in_back, pairs_append, to_filter}
use Rattle.release_list.proofs.Unrefused.{Executes, IsLegal, unrefused}
use Rattle.release_list.proofs.OrderLaws.{Ranked, InTime, in_by_time, to_by_time, in_time}
use Rattle.release_list.proofs.RandomLaws.{drawn_below, arrival_from, in_within, within_apart}
use Rattle.release_list.proofs.RandomLaws.{in_rank}

-- for how long a job executes
pub runs_within : (t : Task) (x : ℕ) → 0 < t.cost → Executes t.cost (runs_after t x)
runs_within t x some = elim (cases_Bool (drawn (word_after (word_after x)) 4 == 0)) [
  | inl all ↦ rw all (some, omega arith)
  | inr part ↦
      let small = drawn_below (word_after (word_after x)) t.cost some in
      rw part (omega arith, omega (arith, small))
]

to_within : (t : Task) (g : Pace) (x until n k : ℕ) → k < n → ready_of (random_release t g x k) < until
    → In (random_release t g x k) (jobs_within t g x until n)
unfolding jobs_within
to_within t g x until zero k lt before = absurd (omega arith)
to_within t g x until (suc n) k lt before = elim (cases_eq k n) [
  | inl same ↦ rw same (in_back _ (to_filter (λ s. nat_lt (ready_of s) until)
      {x = random_release t g x n} {xs = random_release t g x n ∷ []} here
      (lt-ltb (ready_of (random_release t g x n)) until (rw same at before))))
  | inr other ↦ in_front _ (to_within t g x until n k (omega arith) before)
]

module _ (U : List Task) (steady : List SteadyTask) (until seed : ℕ) (set : IsTaskSet U) where
  abbrev rs : List Release
  rs = random_of U steady until seed

  abbrev period : Release → ℕ
  period r = (task_at U (task_number U r)).period

  abbrev job : ℕ → ℕ → Release
  job i k = random_release (task_at U i) (pace_of (task_at U i) steady i) (word_before seed i) k

  valid : (i : ℕ) → i < length U → IsValidSheet (task_at U i)
  valid i lt = set.valid i no_task lt

  number_is : {r : Release} {i k : ℕ} → IsRandomJob U steady until seed r i k → task_number U r ≡ i
  number_is {r} {i} j = ap (λ o. unwrap_or o (length U))
      (ap (λ x. task_named U x.name) j.is ∙ found U set.distinct i j.in_set)

  -- ---- what stands in the list
  from_list : {r : Release} → In r rs → (i : ℕ) × (k : ℕ) × IsRandomJob U steady until seed r i k
  from_list at =
      let all = (in_by_time (all_jobs U steady until seed) until at).0 in
      let j = in_rank U steady until seed (length U) (omega arith) all in
      (j.0, j.1, j.3)

  to_rank : (n i k : ℕ) → n ≤ length U → i < n → ready_of (job i k) < until
      → In (job i k) (jobs_by_rank U steady until seed n)
  unfolding jobs_by_rank
  to_rank zero i k le lt before = absurd (omega arith)
  to_rank (suc n) i k le lt before = elim (cases_eq i n) [
    | inl same ↦
        let some : 0 < (task_at U n).period = omega (arith, (valid n (omega arith)).period_from) in
        let ready : ready_of (job n k) < until = rw same at before in
        rw same (in_back _ (to_within (task_at U n) (pace_of (task_at U n) steady n) (word_before seed n) until until k
        (omega (arith, arrival_from (task_at U n) (pace_of (task_at U n) steady n) (word_before seed n) k some)) ready))
    | inr other ↦ in_front _ (to_rank n i k (omega arith) (omega arith) before)
  ]

  ranked : (n : ℕ) → n ≤ length U
      → Pairs (Ranked (task_number U) period) (jobs_by_rank U steady until seed n)
  unfolding jobs_by_rank
  ranked zero le = none
  ranked (suc n) le =
      pairs_append (ranked n (omega arith))
      (pairs_with (within_apart (task_at U n) (pace_of (task_at U n) steady n) (word_before seed n) until until) (λ r s a b apart.
      let own : task_number U s ≡ n = of_rank n le b in
      let gap = subst (λ i. r.time + (task_at U i).period ≤ s.time) (sym own) apart in
      inr (of_rank n le a ∙ sym own, omega (arith, (valid n le).period_from), gap)))
      (λ r s a b.
      let j = in_rank U steady until seed n (omega arith) a in
      inl (omega (arith, j.2, number_is j.3, of_rank n le b)))
    where
      of_rank : (n : ℕ) → n < length U → {r : Release}
          → In r (jobs_within (task_at U n) (pace_of (task_at U n) steady n) (word_before seed n) until until) → task_number U r ≡ n
      of_rank n lt at =
          let w = in_within (task_at U n) (pace_of (task_at U n) steady n) (word_before seed n) until until at in
          number_is {k = w.0} (record { in_set = lt; is = w.2; before = w.3 })

  order : Pairs (InTime (task_number U) period) rs
  order = in_time (task_number U) period (ranked (length U) (omega arith)) until

  pub random_is_list : IsRandomList U steady until seed rs
  random_is_list = record {
    sound = λ n lt. from_list (in_at rs n no_release lt);
    complete = λ i k lt before. place_of no_release (to_by_time (all_jobs U steady until seed) until
        (to_rank (length U) i k (omega arith) lt before) (omega arith));
    ordered = λ m n i h j k less lt first second.
        elim (pairs_at m n no_release order less lt).order [
          | inl early ↦ inl early
          | inr tie ↦ inr (tie.0, omega (arith, tie.1, number_is first, number_is second))
        ];
  }

  -- ---- a kernel refuses none
  pub legal : (r : Release) → In r rs → IsLegal U until r
  legal r at =
      let j = from_list at in
      let t : Task = task_at U j.0 in
      let x : ℕ = word_of (word_before seed j.0) j.1 in
      let late : r.late ≡ late_after t x = ap (λ y. y.late) j.2.is in
      record {
        task = j.0;
        in_set = j.2.in_set;
        named = ap (λ y. y.name) j.2.is;
        prompt = omega (arith, late, drawn_below x (lateness_of t + 1) (omega arith));
        executes = subst (Executes t.cost) (sym (ap (λ y. y.runs) j.2.is))
            (runs_within t x (omega (arith, (valid j.0 j.2.in_set).cost_from)));
        before = j.2.before;
      }

  pub random_accepted : until ≤ 60000000 → length rs ≤ 10000 → refusal_of U rs until ≡ None
  random_accepted =
      unrefused U set rs until legal (pairs_with order (λ r s _ _ o. record {
        rises = elim o.order [ inl early ↦ omega (arith, early) | inr tie ↦ omega (arith, tie.0) ];
        apart = o.apart;
      }))
