-- What the list holds, and in which order; a kernel refuses none.
use Rattle.std.proofs.Common.{◌≡◌, ℕ, zero, suc, ◌+◌, ◌<◌, ◌≤◌, inl, inr, ◌&&◌, nat_lt, ◌==◌, if◌then◌else◌, None, List, true, false, Bool}
use Rattle.std.proofs.Common.{length, sym, ◌∙◌, ap, subst, arith}
use Rattle.std.specs.Prelude.{unwrap_or}
use Rattle.std.specs.List.{list_any}
use Rattle.std.proofs.lemmas.Bool.{cases_eq, cases_lt, lt-ltb, le-ltb}
use Rattle.task_sheet.proofs.Common.{Task, IsValidSheet, no_task, task_at, IsTaskSet}
use Rattle.ceiling_kernel.specs.declared.trace.Release.{Release}
use Rattle.ceiling_kernel.proofs.Common.{lateness_of, task_named, task_number}
use Rattle.ceiling_kernel.proofs.Common.{refusal_of}
use Rattle.release_list.proofs.TaskNumbers.{found}
use Rattle.release_list.proofs.InLaws.{In, Pairs, none, in_front, in_back, pairs_append, pairs_with}
use Rattle.release_list.proofs.Unrefused.{Executes, IsLegal, unrefused}
use Rattle.release_list.proofs.OrderLaws.{Ranked, InTime, in_by_time, to_by_time, in_time}
use Rattle.chain_worst.specs.Arrivals.{arrival_at, late_at, release_at}
use Rattle.chain_worst.specs.Built.{jobs_within, jobs_by_rank, all_jobs, built_of}
use Rattle.chain_worst.specs.declared.aims.Aim.{Aim}
use Rattle.chain_worst.proofs.ArrivalLaws.{arrival_from}
use Rattle.chain_worst.proofs.JobLaws.{IsBuiltJob, early_in, in_within, in_rank, within_apart}

-- how late a job is that arrives before the end: within the jitter, and ready before the end
late_by : (b : Bool) (t : Task) (until time : ℕ) → time < until
    → (if nat_lt (time + lateness_of t) until && b then lateness_of t else 0) ≤ lateness_of t
    × (time + (if nat_lt (time + lateness_of t) until && b then lateness_of t else 0) < until)
late_by true t until time lt = elim (cases_lt (time + lateness_of t) until) [
  | inl soon ↦ rw (lt-ltb (time + lateness_of t) until soon) (omega arith, soon)
  | inr late ↦ rw (le-ltb (time + lateness_of t) until late) (omega arith, omega arith)
]
late_by false t until time lt = elim (cases_lt (time + lateness_of t) until) [
  | inl soon ↦ rw (lt-ltb (time + lateness_of t) until soon) (omega arith, omega arith)
  | inr late ↦ rw (le-ltb (time + lateness_of t) until late) (omega arith, omega arith)
]

late_within : (t : Task) (until : ℕ) (aims : List Aim) (time : ℕ) → time < until
    → (late_at t until aims time ≤ lateness_of t) × (time + late_at t until aims time < until)
late_within t until aims time lt = late_by (list_any (λ m. m.ready == time + lateness_of t) aims) t until time lt

to_within : (t : Task) (rank until : ℕ) (aims : List Aim) (n k : ℕ) → k < n → arrival_at t rank until aims k < until
    → In (release_at t until aims (arrival_at t rank until aims k)) (jobs_within t rank until aims n)
unfolding jobs_within
to_within t rank until aims zero k lt before = absurd (omega arith)
to_within t rank until aims (suc n) k lt before = elim (cases_eq k n) [
  | inl same ↦ rw same (in_back (jobs_within t rank until aims n)
      (early_in t until aims (arrival_at t rank until aims n) (rw same at before)))
  | inr other ↦ in_front _ (to_within t rank until aims n k (omega arith) before)
]

module _ (U : List Task) (until : ℕ) (aims : List Aim) (set : IsTaskSet U) where
  abbrev pub rs : List Release
  rs = built_of U until aims

  abbrev period : Release → ℕ
  period r = (task_at U (task_number U r)).period

  abbrev job : ℕ → ℕ → Release
  job i k = release_at (task_at U i) until aims (arrival_at (task_at U i) i until aims k)

  pub valid : (i : ℕ) → i < length U → IsValidSheet (task_at U i)
  valid i lt = set.valid i no_task lt

  pub number_is : {r : Release} {i k : ℕ} → IsBuiltJob U until aims r i k → task_number U r ≡ i
  number_is {r} {i} j = ap (λ o. unwrap_or o (length U))
      (ap (λ x. task_named U x.name) j.is ∙ found U set.distinct i j.in_set)

  -- ---- what stands in the list
  pub from_list : {r : Release} → In r rs → (i : ℕ) × (k : ℕ) × IsBuiltJob U until aims r i k
  from_list at =
      let all = (in_by_time (all_jobs U until aims) until at).0 in
      let j = in_rank U until aims (length U) (omega arith) all in
      (j.0, j.1, j.3)

  to_rank : (n i k : ℕ) → n ≤ length U → i < n → (job i k).time < until
      → In (job i k) (jobs_by_rank U until aims n)
  unfolding jobs_by_rank
  to_rank zero i k le lt before = absurd (omega arith)
  to_rank (suc n) i k le lt before = elim (cases_eq i n) [
    | inl same ↦
        let some : 0 < (task_at U n).period = omega (arith, (valid n (omega arith)).period_from) in
        let early : (job n k).time < until = rw same at before in
        rw same (in_back _ (to_within (task_at U n) n until aims until k
        (omega (arith, arrival_from (task_at U n) n until aims k some)) early))
    | inr other ↦ in_front _ (to_rank n i k (omega arith) (omega arith) before)
  ]

  pub to_list : (i k : ℕ) → i < length U → (job i k).time < until → In (job i k) rs
  to_list i k lt before = to_by_time (all_jobs U until aims) until
      (to_rank (length U) i k (omega arith) lt before) before

  ranked : (n : ℕ) → n ≤ length U → Pairs (Ranked (task_number U) period) (jobs_by_rank U until aims n)
  unfolding jobs_by_rank
  ranked zero le = none
  ranked (suc n) le =
      pairs_append (ranked n (omega arith))
      (pairs_with (within_apart (task_at U n) n until aims until) (λ r s a b apart.
      let own : task_number U s ≡ n = of_rank n le b in
      let gap = subst (λ i. r.time + (task_at U i).period ≤ s.time) (sym own) apart in
      inr (of_rank n le a ∙ sym own, omega (arith, (valid n le).period_from), gap)))
      (λ r s a b.
      let j = in_rank U until aims n (omega arith) a in
      inl (omega (arith, j.2, number_is j.3, of_rank n le b)))
    where
      of_rank : (n : ℕ) → n < length U → {r : Release}
          → In r (jobs_within (task_at U n) n until aims until) → task_number U r ≡ n
      of_rank n lt at =
          let w = in_within (task_at U n) n until aims until at in
          number_is {k = w.0} (record { in_set = lt; is = w.2; before = w.3 })

  order : Pairs (InTime (task_number U) period) rs
  order = in_time (task_number U) period (ranked (length U) (omega arith)) until

  -- ---- a kernel refuses none
  legal : (r : Release) → In r rs → IsLegal U until r
  legal r at =
      let j = from_list at in
      let t : Task = task_at U j.0 in
      let time : ℕ = arrival_at t j.0 until aims j.1 in
      let late : r.late ≡ late_at t until aims time = ap (λ y. y.late) j.2.is in
      let arrives : r.time ≡ time = ap (λ y. y.time) j.2.is in
      let lateness = late_within t until aims time (omega (arith, arrives, j.2.before)) in
      record {
        task = j.0;
        in_set = j.2.in_set;
        named = ap (λ y. y.name) j.2.is;
        prompt = omega (arith, late, lateness.0);
        executes = subst (Executes t.cost) (sym (ap (λ y. y.runs) j.2.is))
            (omega (arith, (valid j.0 j.2.in_set).cost_from), omega arith);
        before = omega (arith, late, arrives, lateness.1);
      }

  pub built_accepted : until ≤ 60000000 → length rs ≤ 10000 → refusal_of U rs until ≡ None
  built_accepted =
      unrefused U set rs until legal (pairs_with order (λ r s _ _ o. record {
        rises = elim o.order [ inl early ↦ omega (arith, early) | inr tie ↦ omega (arith, tie.0) ];
        apart = o.apart;
      }))
