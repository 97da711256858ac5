-- What is left of a list that stops at an overrun is run.
use Rattle.std.proofs.Common.{ℕ, zero, suc, ◌+◌, ◌<◌, ◌≤◌, ◌≡◌, ◌⊎◌, inl, inr, refl, sym, ap, ◌∙◌, arith}
use Rattle.std.proofs.Common.{Bool, true, false, ◌&&◌, ◌||◌, cond, nat_lt, nat_le, Option, Some, None, List, length}
use Rattle.std.specs.List.{list_any}
use Rattle.std.specs.Option.{option_or}
use Rattle.std.proofs.lemmas.Bool.{cases_Bool, cases_eq, cases_lt, eq-eqb, ne_eqb, le-ltb, le-leb, lt-leb, ltb-true, or_from, or_parts, true≢false}
use Rattle.std.proofs.lemmas.List.Elements.{filter_passes}
use Rattle.std.proofs.lemmas.List.Folds.{list_any_none}
use Rattle.task_sheet.proofs.Below.{none_below, some_below-none}
use Rattle.ceiling_kernel.specs.declared.trace.Release.{Release}
use Rattle.ceiling_kernel.specs.declared.trace.RunFault.TheVariants as fault
use Rattle.ceiling_kernel.specs.Releases.{first_where, is_outside_cost, is_past, is_soon_job, is_too_late, is_too_soon}
use Rattle.ceiling_kernel.specs.Releases.{is_unknown, is_unsorted, job_of, jobs_of, no_release, ready_of, refusal_of}
use Rattle.ceiling_kernel.specs.Releases.{refuse_if, release_at}
use Rattle.ceiling_kernel.specs.Tick.{Node, Job, active_of, best, better_of, executed_before, gives_way, is_pending}
use Rattle.ceiling_kernel.specs.Tick.{job_at, level_of_job, one_more, pick}
use Rattle.ceiling_kernel.specs.Waits.{NoOverrun, Overruns}
use Rattle.ceiling_kernel.proofs.AcceptLaws.{IsAccepted, accepted, first_none, none_passes, not_lt, sorted_from}
use Rattle.ceiling_kernel.proofs.ReleaseLaws.{job_is, jobs_length}
use Rattle.cut_runs.specs.Cut.{CutsAreRun, ready_before}
use Rattle.cut_runs.proofs.RankLaws.{IsFrom, comes_from, keep, kept_at, rank, rank_all, rank_differs, rank_kept, rank_le, rank_left, rank_lt, rank_most}

-- one that isn't pending doesn't go first
not_better : (pending : ℕ → Bool) (active level : ℕ → ℕ) (o : Option ℕ) (n : ℕ) → pending n ≡ false
    → better_of pending active level o n ≡ o
not_better pending active level None n f = rw f
not_better pending active level (Some k) n f = rw f

-- where none passes, none is the first
none_first : (test : ℕ → Bool) (n : ℕ) → ((k : ℕ) → k < n → test k ≡ false)
    → first_where test n ≡ None
unfolding first_where
none_first test zero h = refl
none_first test (suc n) h = rw (none_first test n (λ k lt. h k (omega arith)), h n (omega arith))

-- neither of the last two refusals
last_two : (a b : Bool) → option_or (refuse_if a fault.PastHorizon) (refuse_if b fault.TooMany) ≡ None
    → (a ≡ false) × (b ≡ false)
last_two true b e = absurd (cc)
last_two false true e = absurd (cc)
last_two false false e = (refl, refl)

not_le : (a b : ℕ) → nat_le a b ≡ false → b < a
not_le a b f = elim (cases_lt b a) [
  | inl lt ↦ lt
  | inr ge ↦ absurd (true≢false (sym (le-leb a b ge) ∙ f))
]

module _ (node : Node) (rs : List Release) (time : ℕ) where
  abbrev before : Release → Bool
  before r = nat_lt (ready_of r) time

  abbrev jobs : List Job
  jobs = jobs_of node.tasks rs

  abbrev left : List Job
  left = jobs_of node.tasks (ready_before time rs)

  abbrev is_left : ℕ → Bool
  is_left n = keep before rs no_release n

  abbrev place : ℕ → ℕ
  place n = rank before rs no_release n

  inside : (n : ℕ) → n < length rs → is_left n ≡ true → place n < length (ready_before time rs)
  inside n lt k =
      let r : place n < place (length rs) = rank_lt before rs no_release n (length rs) lt (omega arith) k in
      let all : place (length rs) ≡ length (ready_before time rs) = rank_all before rs no_release in
      omega arith

  release_left : (n : ℕ) → n < length rs → is_left n ≡ true
      → release_at (ready_before time rs) (place n) ≡ release_at rs n
  release_left n lt k = kept_at before rs no_release n lt k

  job_left : (n : ℕ) → n < length rs → is_left n ≡ true → job_at left (place n) ≡ job_at jobs n
  job_left n lt k =
      job_is node.tasks (ready_before time rs) (place n) (inside n lt k) ∙
      (ap (job_of node.tasks) (release_left n lt k) ∙ sym (job_is node.tasks rs n lt))

  ready_is : (n : ℕ) → n < length rs → (job_at jobs n).ready ≡ ready_of (release_at rs n)
  ready_is n lt = ap (λ (j : Job). j.ready) (job_is node.tasks rs n lt)

  ready_left : (n : ℕ) → n < length rs → is_left n ≡ true → (job_at jobs n).ready < time
  ready_left n lt k =
      let r : ready_of (release_at rs n) < time = ltb-true (ready_of (release_at rs n)) time k in
      omega (arith, ready_is n lt)

  ready_other : (n : ℕ) → n < length rs → is_left n ≡ false → time ≤ (job_at jobs n).ready
  ready_other n lt k =
      let r : time ≤ ready_of (release_at rs n) = not_lt (ready_of (release_at rs n)) time k in
      omega (arith, ready_is n lt)

  -- ---- who is picked
  -- the same job, by its place in what is left, or none
  record IsSame (n k : ℕ) (o o' : Option ℕ) : Type 0 where
    pub whole : o ≡ Some k
    pub left_is : o' ≡ Some (place k)
    pub below : k < n
    pub kept : is_left k ≡ true

  abbrev AreSame : ℕ → Option ℕ → Option ℕ → Type 0
  AreSame n o o' = ((o ≡ None) × (o' ≡ None)) ⊎ ((k : ℕ) × IsSame n k o o')

  module _ (pending pending' : ℕ → Bool) (active active' level level' : ℕ → ℕ)
      (alike : (k : ℕ) → k < length rs → is_left k ≡ true → (pending' (place k) ≡ pending k)
      × (active' (place k) ≡ active k) × (level' (place k) ≡ level k))
      (others : (k : ℕ) → k < length rs → is_left k ≡ false → pending k ≡ false) where
    alone : (b : Bool) (n : ℕ) → is_left n ≡ true
        → AreSame (suc n) (cond b (Some n) None) (cond b (Some (place n)) None)
    alone true n k = inr (n, record { whole = refl; left_is = refl; below = omega arith; kept = k })
    alone false n k = inl (refl, refl)

    either : (b : Bool) (k n : ℕ) → k < n → is_left k ≡ true → is_left n ≡ true
        → AreSame (suc n) (cond b (Some n) (Some k)) (cond b (Some (place n)) (Some (place k)))
    either true k n lt ek en = inr (n, record { whole = refl; left_is = refl; below = omega arith; kept = en })
    either false k n lt ek en = inr (k, record { whole = refl; left_is = refl; below = omega arith; kept = ek })

    more : (n : ℕ) → n < length rs → is_left n ≡ true → (o o' : Option ℕ) → AreSame n o o'
        → AreSame (suc n) (better_of pending active level o n) (better_of pending' active' level' o' (place n))
    more n lt kn o o' same = elim same [
      | inl e ↦ rw (e.0, e.1, (alike n lt kn).0) (alone (pending n) n kn)
      | inr w ↦
          let k : ℕ = w.0 in
          let lk : k < length rs = omega (arith, w.1.below) in
          let an = alike n lt kn in
          let ak = alike k lk w.1.kept in
          rw (w.1.whole, w.1.left_is, an.0, an.1, an.2, ak.1, ak.2)
          (either (pending n && gives_way active level k n) k n w.1.below w.1.kept kn)
    ]

    wider : (n : ℕ) (o o' : Option ℕ) → AreSame n o o' → AreSame (suc n) o o'
    wider n o o' same = elim same [
      | inl e ↦ inl e
      | inr w ↦ inr (
        w.0,
        record {
          whole = w.1.whole;
          left_is = w.1.left_is;
          below = omega (arith, w.1.below);
          kept = w.1.kept;
        },
      )
    ]

    bests : (n : ℕ) → n ≤ length rs
        → AreSame n (best pending active level n) (best pending' active' level' (place n))
    unfolding best
    bests zero le = inl (refl, refl)
    bests (suc n) le =
        let so = bests n (omega arith) in
        elim (cases_Bool (is_left n)) [
          | inl k ↦
              let s : place (suc n) ≡ suc (place n) = (let e : place (suc n) ≡ place n + 1 =
              rank_kept before rs no_release n (omega arith) k in omega arith) in
              rw s (more n (omega arith) k (best pending active level n)
              (best pending' active' level' (place n)) so)
          | inr k ↦
              let s : place (suc n) ≡ place n = rank_left before rs no_release n (omega arith) k in
              rw (s, not_better pending active level (best pending active level n) n (others n (omega arith) k))
              (wider n (best pending active level n) (best pending' active' level' (place n)) so)
        ]

  -- ---- what each has executed
  abbrev Executed : ℕ → Type 0
  Executed t = (k : ℕ) → k < length rs → is_left k ≡ true
      → executed_before node left t (place k) ≡ executed_before node jobs t k

  picks : (t : ℕ) → t < time → Executed t
      → AreSame (length rs) (pick node jobs (executed_before node jobs t) t)
      (pick node left (executed_before node left t) t)
  picks t lt so =
      let ex = executed_before node jobs t in
      let ex' = executed_before node left t in
      let all = bests (is_pending jobs ex t) (is_pending left ex' t) (active_of node jobs ex)
      (active_of node left ex') (level_of_job node jobs) (level_of_job node left)
      (λ k lk kept. (
        rw (job_left k lk kept, so k lk kept) refl,
        rw (job_left k lk kept, so k lk kept) refl,
        rw (job_left k lk kept) refl,
      ))
      (λ k lk other. rw (lt-leb (job_at jobs k).ready t (omega (arith, ready_other k lk other))) refl)
      (length rs) (omega arith) in
      let many : length jobs ≡ length rs = jobs_length node.tasks rs in
      let few : length left ≡ place (length rs) =
      jobs_length node.tasks (ready_before time rs) ∙ sym (rank_all before rs no_release) in
      rw (many, few) all

  advanced : (k j : ℕ) (ex ex' : ℕ → ℕ) → k < length rs → j < length rs → is_left k ≡ true
      → is_left j ≡ true → ex' (place j) ≡ ex j
      → one_more (Some (place k)) ex' (place j) ≡ one_more (Some k) ex j
  advanced k j ex ex' lk lj kk kj e = elim (cases_eq k j) [
    | inl same ↦ rw (eq-eqb k j same, eq-eqb (place k) (place j) (ap place same), e) refl
    | inr other ↦ rw (
      ne_eqb k j other,
      ne_eqb (place k) (place j) (λ at. other (rank_differs before rs no_release k j lk lj kk kj at)),
      e,
    ) refl
  ]

  executed_left : (t : ℕ) → t ≤ time → Executed t
  unfolding executed_before
  executed_left zero le j lj kj = refl
  executed_left (suc t) le j lj kj =
      let so : Executed t = executed_left t (omega arith) in
      elim (picks t (omega arith) so) [
        | inl e ↦ rw (e.0, e.1) (so j lj kj)
        | inr w ↦ rw (w.1.whole, w.1.left_is)
            (advanced w.0 j (executed_before node jobs t) (executed_before node left t) w.1.below lj w.1.kept kj (so j lj kj))
      ]

  -- ---- no job that is left overruns
  from : (m : ℕ) → m < length (ready_before time rs) → IsFrom before rs no_release (length rs) m
  from m lt =
      let all : place (length rs) ≡ length (ready_before time rs) = rank_all before rs no_release in
      comes_from before rs no_release (length rs) m (omega arith) (omega arith)

  job_from : (m : ℕ) (lt : m < length (ready_before time rs)) → job_at left m ≡ job_at jobs (from m lt).place
  job_from m lt =
      let f = from m lt in
      ap (job_at left) (sym f.stands) ∙ job_left f.place f.below f.kept

  release_from : (m : ℕ) (lt : m < length (ready_before time rs))
      → release_at (ready_before time rs) m ≡ release_at rs (from m lt).place
  release_from m lt =
      let f = from m lt in
      ap (release_at (ready_before time rs)) (sym f.stands) ∙ release_left f.place f.below f.kept

  in_order : (i m : ℕ) (li : i < length (ready_before time rs)) (lm : m < length (ready_before time rs))
      → i < m → (from i li).place < (from m lm).place
  in_order i m li lm less =
      let h = from i li in
      let n = from m lm in
      elim (cases_lt h.place n.place) [
        | inl lt ↦ lt
        | inr ge ↦
            let r : place n.place ≤ place h.place = rank_le before rs no_release n.place h.place ge
            (omega (arith, h.below)) in
            absurd (omega (arith, h.stands, n.stands))
      ]

  none_overruns : ((j : ℕ) → j < length jobs → Overruns node jobs j → time ≤ (job_at jobs j).ready)
      → NoOverrun node left
  none_overruns first m lt over =
      let many : length left ≡ length (ready_before time rs) = jobs_length node.tasks (ready_before time rs) in
      let lm : m < length (ready_before time rs) = omega arith in
      let i : ℕ = over.0 in
      let li : i < length (ready_before time rs) = omega (arith, over.1) in
      let n = from m lm in
      let h = from i li in
      let ready : (job_at jobs n.place).ready < time = ready_left n.place n.below n.kept in
      let es : executed_before node left (job_at left m).ready i
      ≡ executed_before node jobs (job_at jobs n.place).ready h.place =
      rw (job_from m lm) (ap (executed_before node left (job_at jobs n.place).ready) (sym h.stands)
      ∙ executed_left (job_at jobs n.place).ready (omega arith) h.place h.below h.kept) in
      let lacks : executed_before node jobs (job_at jobs n.place).ready h.place < (job_at jobs h.place).executes =
      (let e : (job_at left i).executes ≡ (job_at jobs h.place).executes =
      ap (λ (j : Job). j.executes) (job_from i li) in omega (arith, over.3, es, e)) in
      let whole : length jobs ≡ length rs = jobs_length node.tasks rs in
      let past : time ≤ (job_at jobs n.place).ready = first n.place (omega (arith, n.below)) (
        h.place,
        in_order i m li lm over.1,
        sym (ap (λ (j : Job). j.task) (job_from i li)) ∙ (over.2 ∙ ap (λ (j : Job). j.task) (job_from m lm)),
        lacks,
      ) in
      omega arith

  -- ---- what is left isn't refused
  module _ (until : ℕ) (none : refusal_of node.tasks rs until ≡ None) (sooner : time ≤ until) where
    is : IsAccepted node.tasks rs until
    is = accepted node.tasks rs until none

    sorted : (k : ℕ) → k < length (ready_before time rs) → is_unsorted (ready_before time rs) k ≡ false
    sorted zero lt = refl
    sorted (suc k) lt =
        let lk : k < length (ready_before time rs) = omega arith in
        let h = from k lk in
        let n = from (suc k) lt in
        let less : h.place < n.place = in_order k (suc k) lk lt (omega arith) in
        let le : (release_at rs h.place).time ≤ (release_at rs n.place).time =
        sorted_from rs is.sorted h.place n.place (omega arith) n.below in
        rw (release_from k lk, release_from (suc k) lt)
        (le-ltb (release_at rs n.place).time (release_at rs h.place).time le)

    none_soon : (k : ℕ) → k < length (ready_before time rs) → is_too_soon node.tasks left k ≡ false
    none_soon k lt = some_below-none k (is_soon_job node.tasks left k) (λ j less.
        let lj : j < length (ready_before time rs) = omega arith in
        let h = from j lj in
        let n = from k lt in
        let f = none_below n.place (is_soon_job node.tasks jobs n.place)
        (first_none (is_too_soon node.tasks jobs) (length rs) is.spaced n.place n.below) h.place
        (in_order j k lj lt less) in
        rw (job_from j lj, job_from k lt) f)

    none_late : (k : ℕ) → k < length (ready_before time rs)
        → is_too_late node.tasks (ready_before time rs) k ≡ false
    none_late k lt =
        let n = from k lt in
        rw (release_from k lt)
        (first_none (is_too_late node.tasks rs) (length rs) is.prompt n.place n.below)

    none_unknown : (k : ℕ) → k < length (ready_before time rs)
        → is_unknown node.tasks (ready_before time rs) k ≡ false
    none_unknown k lt =
        let n = from k lt in
        rw (release_from k lt)
        (first_none (is_unknown node.tasks rs) (length rs) is.known n.place n.below)

    none_outside : (k : ℕ) → k < length (ready_before time rs)
        → is_outside_cost node.tasks (ready_before time rs) k ≡ false
    none_outside k lt =
        let n = from k lt in
        rw (release_from k lt)
        (first_none (is_outside_cost node.tasks rs) (length rs) is.in_cost n.place n.below)

    few : (until ≤ 60000000) × (length rs ≤ 10000)
    few =
        let e = rw (is.sorted, is.known, is.spaced, is.prompt, is.in_cost) at none in
        let both = last_two (nat_lt 60000000 until || list_any (is_past until) rs) (nat_lt 10000 (length rs)) e in (
          not_lt 60000000 until (or_parts (nat_lt 60000000 until) (list_any (is_past until) rs) both.0).0,
          not_lt 10000 (length rs) both.1,
        )

    unrefused : refusal_of node.tasks (ready_before time rs) time ≡ None
    unrefused =
        let n : ℕ = length (ready_before time rs) in
        let fewer : place (length rs) ≡ n = rank_all before rs no_release in
        let most : place (length rs) ≤ length rs = rank_most before rs no_release (length rs) (omega arith) in
        rw (
          none_first (is_unsorted (ready_before time rs)) n sorted,
          none_first (is_unknown node.tasks (ready_before time rs)) n none_unknown,
          none_first (is_too_soon node.tasks left) n none_soon,
          none_first (is_too_late node.tasks (ready_before time rs)) n none_late,
          none_first (is_outside_cost node.tasks (ready_before time rs)) n none_outside,
          or_from (nat_lt 60000000 time) (list_any (is_past time) (ready_before time rs))
              (le-ltb 60000000 time (omega (arith, few.0)))
              (list_any_none (is_past time) (ready_before time rs) (λ k d lt.
              lt-leb time _ (ltb-true _ time (filter_passes before rs k d lt)))),
          le-ltb 10000 n (omega (arith, few.1)),
        ) refl

-- ---- together
pub cut_is_run : (node : Node) (rs : List Release) (until : ℕ) → CutsAreRun node rs until
cut_is_run node rs until name time stops =
    let none = stops.0 in
    let over = stops.1 in
    let k : ℕ = over.place in
    let lt : k < length rs = omega (arith, over.first.is_job, jobs_length node.tasks rs) in
    let ready : (job_at (jobs_of node.tasks rs) k).ready ≡ time =
    ready_is node rs time k lt ∙ sym over.time_is in
    let sooner : time < until = (let is = accepted node.tasks rs until none in
    let p = none_passes (is_past until) rs k no_release lt is.before in
    let r : ready_of (release_at rs k) < until = not_le until (ready_of (release_at rs k)) p in
    omega (arith, over.time_is)) in (
      unrefused node rs time until none (omega arith),
      none_overruns node rs time (λ j lj overs.
          let e : (job_at (jobs_of node.tasks rs) k).ready ≤ (job_at (jobs_of node.tasks rs) j).ready =
          over.first.earliest j lj overs in omega arith),
    )
