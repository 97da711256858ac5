-- What the rule of random lists draws, and the jobs that come of it.
use Rattle.std.proofs.Common.{◌≡◌, ℕ, zero, suc, ◌+◌, ◌*◌, ◌/◌, ◌^◌, ◌<◌, ◌≤◌, inl, inr, nat_lt}
use Rattle.std.proofs.Common.{List, [], ◌∷◌, ◌++◌, length, get_or, refl, sym, ◌∙◌, ap, ap₂}
use Rattle.std.proofs.Common.{append_assoc, arith}
use Rattle.std.proofs.Math.Nat.{mod-lt, mul-lt-mul_of_pos_right}
use Rattle.std.proofs.lemmas.Bool.{cases_eq, le-ltb, ltb-true}
use Rattle.std.proofs.lemmas.List.{append-nil, length-append}
use Rattle.task_sheet.specs.Sheet.{Task, task_at}
use Rattle.task_sheet.proofs.TaskLaws.{task_read}
use Rattle.ceiling_kernel.specs.declared.trace.Release.{Release}
use Rattle.ceiling_kernel.specs.declared.trace.RunFault.{RunFault}
use Rattle.ceiling_kernel.specs.declared.trace.RunFault.TheVariants as fault
use Rattle.ceiling_kernel.specs.Releases.{ready_of, refuse_if, IsRefusal}
use Rattle.release_list.specs.Random.{word_after, word_before, drawn, late_after, runs_after}
use Rattle.release_list.specs.Random.{third_after, gap_after, first_at, pace_of, word_of, arrival_at, random_release}
use Rattle.release_list.specs.Random.{if_ready, jobs_within, jobs_by_rank, all_jobs, IsRandomJob}
use Rattle.release_list.specs.declared.random_list.Pace.{Pace}
use Rattle.release_list.specs.declared.steady.SteadyTask.{SteadyTask}
use Rattle.release_list.proofs.TimeLaws.{refusal_grows, longer}
use Rattle.release_list.proofs.InLaws.{In, Pairs, none, only, alone, in_either, pairs_append}
use Rattle.release_list.proofs.InLaws.{from_filter, pairs_filter}

-- ---- words
word_small : (x : ℕ) → word_after x < 2 ^ 64
unfolding word_after
word_small x = mod-lt (x * 6364136223846793005 + 1442695040888963407) (omega arith)

half_small : (w : ℕ) → w < 2 ^ 64 → w / 2 ^ 32 < 2 ^ 32
half_small w h = omega arith

-- what is drawn is below the bound
pub drawn_below : (x b : ℕ) → 0 < b → drawn (word_after x) b < b
unfolding drawn
drawn_below x b some =
    let half : word_after x / 2 ^ 32 < 2 ^ 32 = half_small (word_after x) (word_small x) in
    let less : (word_after x / 2 ^ 32) * b < 2 ^ 32 * b = mul-lt-mul_of_pos_right half some in
    omega arith

-- ---- arrivals
next_arrival : (t : Task) (g : Pace) (x k : ℕ) → arrival_at t g x k + t.period ≤ arrival_at t g x (suc k)
unfolding arrival_at
next_arrival t g x k = omega arith

arrivals_apart : (t : Task) (g : Pace) (x j k : ℕ) → j < k → arrival_at t g x j + t.period ≤ arrival_at t g x k
arrivals_apart t g x j zero lt = absurd (omega arith)
arrivals_apart t g x j (suc k) lt = elim (cases_eq j k) [
  | inl same ↦ rw same (next_arrival t g x k)
  | inr other ↦ omega (arith, next_arrival t g x k, arrivals_apart t g x j k (omega arith))
]

pub arrival_from : (t : Task) (g : Pace) (x k : ℕ) → 0 < t.period → k ≤ arrival_at t g x k
arrival_from t g x zero some = omega arith
arrival_from t g x (suc k) some = omega (arith, next_arrival t g x k, arrival_from t g x k some)

-- ---- the jobs of a task
pub not_ready : (until : ℕ) (r : Release) → until ≤ ready_of r → if_ready until r ≡ []
not_ready until r late = rw (le-ltb (ready_of r) until late)

-- from the first that arrives at the end on, none is ready before it
within_all : (t : Task) (g : Pace) (x until k n : ℕ) → k ≤ n → until ≤ arrival_at t g x k
    → jobs_within t g x until k ≡ jobs_within t g x until n
unfolding jobs_within
within_all t g x until k zero le past = (let e : k ≡ 0 = omega arith in ap (jobs_within t g x until) e)
within_all t g x until k (suc n) le past = elim (cases_eq k (suc n)) [
  | inl same ↦ ap (jobs_within t g x until) same
  | inr other ↦
      let later : arrival_at t g x k ≤ arrival_at t g x n = elim (cases_eq k n) [
        | inl same ↦ rw same (omega arith)
        | inr more ↦ omega (arith, arrivals_apart t g x k n (omega arith))
      ] in
      rw (not_ready until (random_release t g x n) (omega arith), append-nil)
      (within_all t g x until k n (omega arith) past)
]

pub in_within : (t : Task) (g : Pace) (x until n : ℕ) {r : Release} → In r (jobs_within t g x until n) → (k : ℕ)
    × (k < n) × (r ≡ random_release t g x k) × (ready_of r < until)
unfolding jobs_within
in_within t g x until zero at = elim at [ ]
in_within t g x until (suc n) {r} at = elim (in_either _ _ at) [
  | inl before ↦ let w = in_within t g x until n before in (w.0, omega (arith, w.1), w.2, w.3)
  | inr now ↦
      let f = from_filter (λ s. nat_lt (ready_of s) until) (random_release t g x n ∷ []) now in
      (n, omega arith, sym (only f.0), ltb-true (ready_of r) until f.1)
]

-- they come a period apart
pub within_apart : (t : Task) (g : Pace) (x until n : ℕ)
    → Pairs (λ r s. r.time + t.period ≤ s.time) (jobs_within t g x until n)
unfolding jobs_within
within_apart t g x until zero = none
within_apart t g x until (suc n) =
    pairs_append (within_apart t g x until n)
    (pairs_filter (λ s. nat_lt (ready_of s) until) {xs = random_release t g x n ∷ []} alone)
    (λ r s a b.
    let f = in_within t g x until n a in
    let last = from_filter (λ s. nat_lt (ready_of s) until) (random_release t g x n ∷ []) b in
    omega (
      arith,
      ap (λ y. y.time) f.2,
      ap (λ y. y.time) (only last.0),
      arrivals_apart t g x f.0 n f.1,
    ))

-- ---- the jobs of a set
pub in_rank : (U : List Task) (steady : List SteadyTask) (until seed n : ℕ) → n ≤ length U → {r : Release}
    → In r (jobs_by_rank U steady until seed n) → (i : ℕ) × (k : ℕ) × (i < n)
    × IsRandomJob U steady until seed r i k
unfolding jobs_by_rank
in_rank U steady until seed zero le at = elim at [ ]
in_rank U steady until seed (suc n) le at = elim (in_either _ _ at) [
  | inl before ↦
      let b = in_rank U steady until seed n (omega arith) before in
      (b.0, b.1, omega (arith, b.2), b.3)
  | inr now ↦
      let w = in_within (task_at U n) (pace_of (task_at U n) steady n) (word_before seed n) until until now in
      (n, w.0, omega arith, record { in_set = omega arith; is = w.2; before = w.3 })
]

-- all arrive before the end
pub all_early : (U : List Task) (steady : List SteadyTask) (until seed : ℕ) (r : Release) → In r (all_jobs U steady until seed)
    → r.time < until
all_early U steady until seed r at =
    (let j = in_rank U steady until seed (length U) (omega arith) at in omega (arith, j.3.before))

-- ---- the jobs of a task, one by one
-- the release of a job by its arrival and the word before its own
abbrev pub next_job : Task → (time word : ℕ) → Release
next_job t time word =
    record { time = time; name = t.name; late = late_after t word; runs = runs_after t word }

-- so many of them have been taken: the next arrives at a time, and its words come after a word
pub record AreTaken (t : Task) (g : Pace) (x until time word : ℕ) (old items : List Release) : Type 0 where
  pub taken : ℕ
  pub in_time : taken ≤ until
  pub next : time ≡ arrival_at t g x taken
  pub stands : word ≡ word_of x taken
  pub holds : items ≡ old ++ jobs_within t g x until taken
  pub few : length items ≤ 10000

pub taken_first : {t : Task} {g : Pace} {x until time word : ℕ} {old : List Release}
    → time ≡ first_at g.offset t.period (word_after x) → word ≡ word_after x → length old ≤ 10000
    → AreTaken t g x until time word old old
unfolding arrival_at word_of jobs_within
taken_first {old = old} first stands few = record {
  taken = 0;
  in_time = omega arith;
  next = first;
  stands = stands;
  holds = sym (append-nil old);
  few = few;
}

module _ {t : Task} {g : Pace} {x until time word : ℕ} {old now : List Release}
    (are : AreTaken t g x until time word old now) (some : 0 < t.period) where
  below : time < until → are.taken < until
  below lt = omega (arith, are.next, arrival_from t g x are.taken some)

  -- one more
  more_is : {r : Release} → r ≡ next_job t time word
      → now ++ if_ready until r ≡ old ++ jobs_within t g x until (suc are.taken)
  unfolding jobs_within
  more_is is =
      ap₂ (λ ys s. ys ++ if_ready until s) are.holds (is ∙ ap₂ (next_job t) are.next are.stands)
      ∙ append_assoc old (jobs_within t g x until are.taken)
      (if_ready until (random_release t g x are.taken))

  pub taken_next : {r : Release} {then : List Release} {third next gap : ℕ} → time < until
      → r ≡ next_job t time word → then ≡ now ++ if_ready until r → length then ≤ 10000
      → third ≡ third_after word → gap ≡ gap_after t g.spread third → next ≡ word_after (word_after third)
      → AreTaken t g x until (time + gap) next old then
  unfolding arrival_at word_of
  taken_next lt is pushed few et eg en = record {
    taken = suc are.taken;
    in_time = below lt;
    next = ap₂ (λ a g. a + g) are.next
        (eg ∙ (ap (gap_after t g.spread) et ∙ ap (λ w. gap_after t g.spread (third_after w)) are.stands));
    stands = en ∙ (ap (λ w. word_after (word_after w)) et
        ∙ ap (λ w. word_after (word_after (third_after w))) are.stands);
    holds = pushed ∙ more_is is;
    few = few;
  }

  -- all are taken
  pub taken_all : until ≤ time → now ≡ old ++ jobs_within t g x until until
  taken_all past = are.holds ∙ ap (λ ys. old ++ ys)
      (within_all t g x until are.taken until are.in_time (omega (arith, are.next)))

  -- one that is refused is refused of all
  pub taken_refused : {r : Release} (e : RunFault) → time < until → r ≡ next_job t time word
      → IsRefusal e (refuse_if (nat_lt 10000 (length (now ++ if_ready until r))) fault.TooMany)
      → IsRefusal e
      (refuse_if (nat_lt 10000 (length (old ++ jobs_within t g x until until))) fault.TooMany)
  unfolding jobs_within
  taken_refused {r} e lt is = refusal_grows e (length (now ++ if_ready until r))
      (length (old ++ jobs_within t g x until until)) (omega (
        arith,
        ap length (more_is is),
        length-append old (jobs_within t g x until (suc are.taken)),
        length-append old (jobs_within t g x until until),
        longer (jobs_within t g x until) (λ n. if_ready until (random_release t g x n)) (λ n. refl)
            (suc are.taken) until (below lt),
      ))

-- ---- the tasks of a set, one by one
-- the jobs of the first tasks stand in a list
pub record AreRanked (U : List Task) (steady : List SteadyTask) (until seed n : ℕ) (items : List Release) : Type 0 where
  pub are : items ≡ jobs_by_rank U steady until seed n
  pub few : length items ≤ 10000

pub ranked_first : {U : List Task} {steady : List SteadyTask} {until seed : ℕ} {items : List Release} → items ≡ []
    → AreRanked U steady until seed 0 items
unfolding jobs_by_rank
ranked_first start = record { are = start; few = omega (arith, ap length start) }

module _ {U : List Task} {steady : List SteadyTask} {until seed n word : ℕ} {g : Pace} {now : List Release} {t : Task}
    (are : AreRanked U steady until seed n now) (lt : n < length U) (own : t ≡ get_or U n t)
    (pace : g ≡ pace_of t steady n) (stands : word ≡ word_before seed n) where
  sum_is : now ++ jobs_within t g word until until ≡ jobs_by_rank U steady until seed (suc n)
  unfolding jobs_by_rank
  sum_is = ap₂ (λ ys zs. ys ++ zs) are.are
      (ap (λ h. jobs_within t h word until until) pace
      ∙ ap₂ (λ s x. jobs_within s (pace_of s steady n) x until until) (task_read U U n t refl lt own) stands)

  pub ranked_next : {then : List Release} → then ≡ now ++ jobs_within t g word until until
      → length then ≤ 10000 → AreRanked U steady until seed (n + 1) then
  ranked_next pushed few =
      let one : suc n ≡ n + 1 = omega arith in
      record { are = pushed ∙ (sum_is ∙ ap (jobs_by_rank U steady until seed) one); few = few }

  pub ranked_refused : (e : RunFault)
      → IsRefusal e
      (refuse_if (nat_lt 10000 (length (now ++ jobs_within t g word until until))) fault.TooMany)
      → IsRefusal e (refuse_if (nat_lt 10000 (length (all_jobs U steady until seed))) fault.TooMany)
  unfolding jobs_by_rank
  ranked_refused e = refusal_grows e (length (now ++ jobs_within t g word until until))
      (length (all_jobs U steady until seed)) (rw sum_is (longer (jobs_by_rank U steady until seed)
      (λ n. jobs_within (task_at U n) (pace_of (task_at U n) steady n) (word_before seed n) until until) (λ n. refl)
      (suc n) (length U) lt))
