-- The jobs of the tasks of a set, one by one.
use Rattle.std.proofs.Common.{◌≡◌, ℕ, zero, suc, ◌+◌, ◌<◌, ◌≤◌, inl, inr, nat_lt}
use Rattle.std.proofs.Common.{List, [], ◌∷◌, ◌++◌, length, get_or, refl, sym, ◌∙◌, ap, ap₂}
use Rattle.std.proofs.Common.{append_assoc, arith}
use Rattle.std.proofs.lemmas.Bool.{cases_eq, cases_lt, le-ltb, lt-ltb}
use Rattle.std.proofs.lemmas.List.{append-nil, length-append}
use Rattle.task_sheet.specs.Sheet.{Task, task_at}
use Rattle.task_sheet.proofs.TaskLaws.{task_read}
use Rattle.ceiling_kernel.specs.declared.trace.Release.{Release}
use Rattle.ceiling_kernel.specs.declared.trace.RunFault.{RunFault}
use Rattle.ceiling_kernel.specs.declared.trace.RunFault.TheVariants as fault
use Rattle.ceiling_kernel.specs.Releases.{refuse_if, IsRefusal}
use Rattle.release_list.proofs.TimeLaws.{refusal_grows, longer}
use Rattle.release_list.proofs.InLaws.{In, here, Pairs, none, only, alone, in_either, pairs_append}
use Rattle.chain_worst.specs.Arrivals.{arrival_at, next_of, release_at}
use Rattle.chain_worst.specs.Built.{if_early, jobs_within, jobs_by_rank, all_jobs}
use Rattle.chain_worst.specs.declared.aims.Aim.{Aim}
use Rattle.chain_worst.proofs.ArrivalLaws.{arrivals_apart, arrival_from}

-- a release is job k of the task at an index, before the end
pub record IsBuiltJob (U : List Task) (until : ℕ) (aims : List Aim) (r : Release) (i k : ℕ) : Type 0 where
  pub in_set : i < length U
  pub is : r ≡ release_at (task_at U i) until aims (arrival_at (task_at U i) i until aims k)
  pub before : r.time < until

-- ---- the jobs of a task
none_early : (t : Task) (until : ℕ) (aims : List Aim) (time : ℕ) → until ≤ time → if_early t until aims time ≡ []
none_early t until aims time late = rw (le-ltb time until late) refl

one_early : (t : Task) (until : ℕ) (aims : List Aim) (time : ℕ) → time < until
    → if_early t until aims time ≡ release_at t until aims time ∷ []
one_early t until aims time lt = rw (lt-ltb time until lt) refl

-- it is one that arrives before the end
pub in_early : (t : Task) (until : ℕ) (aims : List Aim) (time : ℕ) {r : Release} → In r (if_early t until aims time)
    → (r ≡ release_at t until aims time) × (time < until)
in_early t until aims time at = elim (cases_lt time until) [
  | inl less ↦ (sym (only (rw (one_early t until aims time less) at at)), less)
  | inr late ↦ elim (rw (none_early t until aims time late) at at) [ ]
]

pub early_in : (t : Task) (until : ℕ) (aims : List Aim) (time : ℕ) → time < until
    → In (release_at t until aims time) (if_early t until aims time)
early_in t until aims time lt = rw (one_early t until aims time lt) here

pairs_early : (R : Release → Release → Type 0) (t : Task) (until : ℕ) (aims : List Aim) (time : ℕ)
    → Pairs R (if_early t until aims time)
pairs_early R t until aims time = elim (cases_lt time until) [
  | inl less ↦ rw (one_early t until aims time less) alone
  | inr late ↦ rw (none_early t until aims time late) none
]

-- from the first that arrives at the end on, none arrives before it
within_all : (t : Task) (rank until : ℕ) (aims : List Aim) (k n : ℕ) → k ≤ n → until ≤ arrival_at t rank until aims k
    → jobs_within t rank until aims k ≡ jobs_within t rank until aims n
unfolding jobs_within
within_all t rank until aims k zero le past = (let e : k ≡ 0 = omega arith in ap (jobs_within t rank until aims) e)
within_all t rank until aims k (suc n) le past = elim (cases_eq k (suc n)) [
  | inl same ↦ ap (jobs_within t rank until aims) same
  | inr other ↦
      let later : arrival_at t rank until aims k ≤ arrival_at t rank until aims n = elim (cases_eq k n) [
        | inl same ↦ rw same (omega arith)
        | inr more ↦ omega (arith, arrivals_apart t rank until aims k n (omega arith))
      ] in
      rw (none_early t until aims (arrival_at t rank until aims n) (omega arith), append-nil)
      (within_all t rank until aims k n (omega arith) past)
]

pub in_within : (t : Task) (rank until : ℕ) (aims : List Aim) (n : ℕ) {r : Release}
    → In r (jobs_within t rank until aims n) → (k : ℕ)
    × (k < n) × (r ≡ release_at t until aims (arrival_at t rank until aims k)) × (r.time < until)
unfolding jobs_within
in_within t rank until aims zero at = elim at [ ]
in_within t rank until aims (suc n) {r} at = elim (in_either _ _ at) [
  | inl before ↦ let w = in_within t rank until aims n before in (w.0, omega (arith, w.1), w.2, w.3)
  | inr now ↦
      let f = in_early t until aims (arrival_at t rank until aims n) now in
      (n, omega arith, f.0, omega (arith, ap (λ y. y.time) f.0, f.1))
]

-- they come a period apart
pub within_apart : (t : Task) (rank until : ℕ) (aims : List Aim) (n : ℕ)
    → Pairs (λ r s. r.time + t.period ≤ s.time) (jobs_within t rank until aims n)
unfolding jobs_within
within_apart t rank until aims zero = none
within_apart t rank until aims (suc n) =
    pairs_append (within_apart t rank until aims n)
    (pairs_early (λ r s. r.time + t.period ≤ s.time) t until aims (arrival_at t rank until aims n))
    (λ r s a b.
    let f = in_within t rank until aims n a in
    let last = in_early t until aims (arrival_at t rank until aims n) b in
    omega (
      arith,
      ap (λ y. y.time) f.2,
      ap (λ y. y.time) last.0,
      arrivals_apart t rank until aims f.0 n f.1,
    ))

-- ---- the jobs of a set
pub in_rank : (U : List Task) (until : ℕ) (aims : List Aim) (n : ℕ) → n ≤ length U → {r : Release}
    → In r (jobs_by_rank U until aims n) → (i : ℕ) × (k : ℕ) × (i < n) × IsBuiltJob U until aims r i k
unfolding jobs_by_rank
in_rank U until aims zero le at = elim at [ ]
in_rank U until aims (suc n) le at = elim (in_either _ _ at) [
  | inl before ↦
      let b = in_rank U until aims n (omega arith) before in
      (b.0, b.1, omega (arith, b.2), b.3)
  | inr now ↦
      let w = in_within (task_at U n) n until aims until now in
      (n, w.0, omega arith, record { in_set = omega arith; is = w.2; before = w.3 })
]

-- all arrive before the end
pub all_early : (U : List Task) (until : ℕ) (aims : List Aim) (r : Release) → In r (all_jobs U until aims)
    → r.time < until
all_early U until aims r at = (in_rank U until aims (length U) (omega arith) at).3.before

-- ---- the jobs of a task, one by one
-- so many of them have been taken, and the next arrives at a time
pub record AreTaken (t : Task) (rank until : ℕ) (aims : List Aim) (time : ℕ) (old items : List Release) : Type 0 where
  pub taken : ℕ
  pub in_time : taken ≤ until
  pub next : time ≡ arrival_at t rank until aims taken
  pub holds : items ≡ old ++ jobs_within t rank until aims taken
  pub few : length items ≤ 10000

pub taken_first : {t : Task} {rank until : ℕ} {aims : List Aim} {time : ℕ} {old : List Release}
    → time ≡ next_of t rank until aims 0 → length old ≤ 10000 → AreTaken t rank until aims time old old
unfolding arrival_at jobs_within
taken_first {old = old} first few = record {
  taken = 0;
  in_time = omega arith;
  next = first;
  holds = sym (append-nil old);
  few = few;
}

module _ {t : Task} {rank until : ℕ} {aims : List Aim} {time : ℕ} {old now : List Release}
    (are : AreTaken t rank until aims time old now) (some : 0 < t.period) where
  below : time < until → are.taken < until
  below lt = omega (arith, are.next, arrival_from t rank until aims are.taken some)

  -- one more
  more_is : time < until
      → now ++ release_at t until aims time ∷ [] ≡ old ++ jobs_within t rank until aims (suc are.taken)
  unfolding jobs_within
  more_is lt =
      ap₂ (λ ys s. ys ++ s) are.holds
      (sym (one_early t until aims time lt) ∙ ap (if_early t until aims) are.next)
      ∙ append_assoc old (jobs_within t rank until aims are.taken)
      (if_early t until aims (arrival_at t rank until aims are.taken))

  pub taken_next : {then : List Release} {next : ℕ} → time < until
      → then ≡ now ++ release_at t until aims time ∷ [] → length then ≤ 10000
      → next ≡ next_of t rank until aims (time + t.period)
      → AreTaken t rank until aims next old then
  unfolding arrival_at
  taken_next lt pushed few en = record {
    taken = suc are.taken;
    in_time = below lt;
    next = en ∙ ap (λ a. next_of t rank until aims (a + t.period)) are.next;
    holds = pushed ∙ more_is lt;
    few = few;
  }

  -- all are taken
  pub taken_all : until ≤ time → now ≡ old ++ jobs_within t rank until aims until
  taken_all past = are.holds ∙ ap (λ ys. old ++ ys)
      (within_all t rank until aims are.taken until are.in_time (omega (arith, are.next)))

  -- one that is refused is refused of all
  pub taken_refused : (e : RunFault) → time < until
      → IsRefusal e
      (refuse_if (nat_lt 10000 (length (now ++ release_at t until aims time ∷ []))) fault.TooMany)
      → IsRefusal e
      (refuse_if (nat_lt 10000 (length (old ++ jobs_within t rank until aims until))) fault.TooMany)
  unfolding jobs_within
  taken_refused e lt = refusal_grows e (length (now ++ release_at t until aims time ∷ []))
      (length (old ++ jobs_within t rank until aims until)) (omega (
        arith,
        ap length (more_is lt),
        length-append old (jobs_within t rank until aims (suc are.taken)),
        length-append old (jobs_within t rank until aims until),
        longer (jobs_within t rank until aims)
            (λ n. if_early t until aims (arrival_at t rank until aims n)) (λ n. refl)
            (suc are.taken) until (below lt),
      ))

-- ---- the tasks of a set, one by one
-- the jobs of the first tasks stand in a list
pub record AreRanked (U : List Task) (until : ℕ) (aims : List Aim) (n : ℕ) (items : List Release) : Type 0 where
  pub are : items ≡ jobs_by_rank U until aims n
  pub few : length items ≤ 10000

pub ranked_first : {U : List Task} {until : ℕ} {aims : List Aim} {items : List Release} → items ≡ []
    → AreRanked U until aims 0 items
unfolding jobs_by_rank
ranked_first start = record { are = start; few = omega (arith, ap length start) }

module _ {U : List Task} {until n : ℕ} {aims : List Aim} {now : List Release} {t : Task}
    (are : AreRanked U until aims n now) (lt : n < length U) (own : t ≡ get_or U n t) where
  sum_is : now ++ jobs_within t n until aims until ≡ jobs_by_rank U until aims (suc n)
  unfolding jobs_by_rank
  sum_is = ap₂ (λ ys s. ys ++ jobs_within s n until aims until) are.are (task_read U U n t refl lt own)

  pub ranked_next : {then : List Release} → then ≡ now ++ jobs_within t n until aims until
      → length then ≤ 10000 → AreRanked U until aims (n + 1) then
  ranked_next pushed few =
      let one : suc n ≡ n + 1 = omega arith in
      record { are = pushed ∙ (sum_is ∙ ap (jobs_by_rank U until aims) one); few = few }

  pub ranked_refused : (e : RunFault)
      → IsRefusal e
      (refuse_if (nat_lt 10000 (length (now ++ jobs_within t n until aims until))) fault.TooMany)
      → IsRefusal e (refuse_if (nat_lt 10000 (length (all_jobs U until aims))) fault.TooMany)
  unfolding jobs_by_rank
  ranked_refused e = refusal_grows e (length (now ++ jobs_within t n until aims until))
      (length (all_jobs U until aims)) (rw sum_is (longer (jobs_by_rank U until aims)
      (λ n. jobs_within (task_at U n) n until aims until) (λ n. refl)
      (suc n) (length U) lt))
