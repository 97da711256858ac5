-- The first refusal of a release list, and what holds where there is none.
use Rattle.std.proofs.Common.{ℕ, zero, suc, ◌+◌, ◌-◌, ◌<◌, ◌≤◌, ◌≡◌, inl, inr, refl, sym, ap, ap₂}
use Rattle.std.proofs.Common.{◌∙◌, subst, arith, List, [], ◌∷◌, ◌++◌, length, get_or, map, take}
use Rattle.std.proofs.Common.{set, replicate, get_or-set_same, get_or-set_other, length-set, Option}
use Rattle.std.proofs.Common.{Some, None, Bool, true, false, ◌&&◌, ◌||◌, ◌==◌, nat_lt, is_none}
use Rattle.std.proofs.Common.{unwrap_or, position, slice_index_or}
use Rattle.std.proofs.lemmas.Option.{none-some}
use Rattle.std.specs.List.{list_any}
use Rattle.std.specs.Option.{option_or, option_map, MatchOption}
use Rattle.std.proofs.lemmas.Bool.{cases_eq, cases_lt, cases_Bool, true≢false, lt-ltb, le-ltb}
use Rattle.std.proofs.lemmas.Bool.{eq-eqb, ne_eqb, or_parts}
use Rattle.std.proofs.lemmas.List.{map_more, get_or_default, length-replicate}
use Rattle.std.proofs.lemmas.List.Folds.{list_any_at}
use Rattle.std.proofs.lemmas.List.Quantifiers.{position-Some}
use Rattle.task_sheet.proofs.Common.{Task, no_task, same_bytes, task_at}
use Rattle.ceiling_kernel.specs.declared.trace.Release.{Release}
use Rattle.ceiling_kernel.specs.declared.trace.RunFault.{RunFault}
use Rattle.ceiling_kernel.specs.declared.trace.RunFault.TheVariants as fault
use Rattle.ceiling_kernel.specs.Tick.{job_at}
use Rattle.ceiling_kernel.specs.Releases.{task_named, task_number, job_of, jobs_of, first_or}
use Rattle.ceiling_kernel.specs.Releases.{first_where, no_release, release_at, is_unsorted}
use Rattle.ceiling_kernel.specs.Releases.{is_unknown, is_soon_job, is_too_soon, is_too_late}
use Rattle.ceiling_kernel.specs.Releases.{is_outside_cost, is_past, refuse_if, refusal_of}
use Rattle.ceiling_kernel.specs.Releases.{soon_after}
use Rattle.task_sheet.proofs.Below.{some_below-at, some_below-none}
use Rattle.ceiling_kernel.proofs.ReleaseLaws.{job_is, place_is, replicated}

-- ---- the first that passes a test
first_step : (test : ℕ → Bool) (n : ℕ)
    → first_where test (suc n) ≡ first_or (first_where test n) (test n) n
unfolding first_where
first_step test n = refl

pub first_start : (test : ℕ → Bool) → first_where test 0 ≡ None
unfolding first_where
first_start test = refl

first_or-none : (o : Option ℕ) (b : Bool) (n : ℕ) → first_or o b n ≡ None → (o ≡ None) × (b ≡ false)
first_or-none (Some k) b n e = absurd (cc)
first_or-none None true n e = absurd (cc)
first_or-none None false n e = (refl, refl)

pub first_none : (test : ℕ → Bool) (n : ℕ) → first_where test n ≡ None → (k : ℕ) → k < n
    → test k ≡ false
first_none test zero e k lt = absurd (omega arith)
first_none test (suc n) e k lt =
    let p = first_or-none (first_where test n) (test n) n (sym (first_step test n) ∙ e) in
    elim (cases_eq k n) [
      | inl same ↦ ap test same ∙ p.1
      | inr ne ↦ first_none test n p.0 k (omega arith)
    ]

-- one more that doesn't pass
pub first_more : (test : ℕ → Bool) (n : ℕ) → first_where test n ≡ None → test n ≡ false
    → first_where test (n + 1) ≡ None
first_more test n e f = (let one : n + 1 ≡ suc n = omega arith in ap (first_where test) one
    ∙ (first_step test n ∙ rw (e, f)))

first_kept : (test : ℕ → Bool) (n k d : ℕ) → first_where test n ≡ Some k
    → first_where test (n + d) ≡ Some k
first_kept test n k zero e = (let z : n + 0 ≡ n = omega arith in ap (first_where test) z ∙ e)
first_kept test n k (suc d) e =
    let s : n + suc d ≡ suc (n + d) = omega arith in
    ap (first_where test) s ∙ (first_step test (n + d) ∙ rw (first_kept test n k d e))

-- the first that passes is the first of all
pub first_found : (test : ℕ → Bool) (n k : ℕ) → first_where test k ≡ None → test k ≡ true → k < n
    → first_where test n ≡ Some k
first_found test n k e t lt =
    let here : first_where test (suc k) ≡ Some k = first_step test k ∙ rw (e, t) in
    let s : suc k + (n - suc k) ≡ n = omega arith in
    sym (ap (first_where test) s) ∙ first_kept test (suc k) k (n - suc k) here

first_all : (test : ℕ → Bool) (n : ℕ) → ((k : ℕ) → k < n → test k ≡ false)
    → first_where test n ≡ None
first_all test zero none = first_start test
first_all test (suc n) none =
    first_step test n ∙ rw (first_all test n (λ k lt. none k (omega arith)), none n (omega arith))

-- what the first of the numbers below n that passes is, if there is one
pub first_from_cases : (test : ℕ → Bool) (n : ℕ) (r : Option ℕ)
    → MatchOption r ((k : ℕ) → 0 ≤ k → k < n → test k ≡ false)
    (λ i. (0 ≤ i) × (i < n) × (test i ≡ true) × ((k : ℕ) → 0 ≤ k → k < i → test k ≡ false))
    → r ≡ first_where test n
first_from_cases test n None none = sym (first_all test n (λ k lt. none k (omega arith) lt))
first_from_cases test n (Some i) e = sym (first_found test n i
    (first_all test i (λ k lt. e.3 k (omega arith) lt)) e.2 e.1)

-- ---- where nothing is refused
or_none : (a b : Option RunFault) → option_or a b ≡ None → (a ≡ None) × (b ≡ None)
or_none None b e = (refl, e)
or_none (Some x) b e = absurd (cc)

map_none : (f : ℕ → RunFault) (o : Option ℕ) → option_map f o ≡ None → o ≡ None
map_none f None e = refl
map_none f (Some k) e = absurd (cc)

if_none : (b : Bool) (r : RunFault) → refuse_if b r ≡ None → b ≡ false
if_none true r e = absurd (cc)
if_none false r e = refl

pub record IsAccepted (U : List Task) (rs : List Release) (until : ℕ) : Type 0 where
  pub sorted : first_where (is_unsorted rs) (length rs) ≡ None
  pub known : first_where (is_unknown U rs) (length rs) ≡ None
  pub spaced : first_where (is_too_soon U (jobs_of U rs)) (length rs) ≡ None
  pub prompt : first_where (is_too_late U rs) (length rs) ≡ None
  pub in_cost : first_where (is_outside_cost U rs) (length rs) ≡ None
  pub before : list_any (is_past until) rs ≡ false

pub accepted : (U : List Task) (rs : List Release) (until : ℕ) → refusal_of U rs until ≡ None
    → IsAccepted U rs until
accepted U rs until e =
    let a = or_none
    (option_map (λ k. fault.Unsorted (k + 1)) (first_where (is_unsorted rs) (length rs))) _ e in
    let b = or_none (option_map (λ k. fault.UnknownTask (k + 1))
    (first_where (is_unknown U rs) (length rs))) _ a.1 in
    let c = or_none (option_map (λ k. fault.TooSoon (k + 1))
    (first_where (is_too_soon U (jobs_of U rs)) (length rs))) _ b.1 in
    let l = or_none (option_map (λ k. fault.TooLate (k + 1))
    (first_where (is_too_late U rs) (length rs))) _ c.1 in
    let o = or_none (option_map (λ k. fault.OutsideCost (k + 1))
    (first_where (is_outside_cost U rs) (length rs))) _ l.1 in
    let d = or_none (refuse_if (nat_lt 60000000 until || list_any (is_past until) rs)
    fault.PastHorizon) _ o.1 in
    record {
      sorted =
          map_none (λ k. fault.Unsorted (k + 1)) (first_where (is_unsorted rs) (length rs)) a.0;
      known =
          map_none (λ k. fault.UnknownTask (k + 1)) (first_where (is_unknown U rs) (length rs)) b.0;
      spaced = map_none (λ k. fault.TooSoon (k + 1))
          (first_where (is_too_soon U (jobs_of U rs)) (length rs)) c.0;
      prompt =
          map_none (λ k. fault.TooLate (k + 1)) (first_where (is_too_late U rs) (length rs)) l.0;
      in_cost = map_none (λ k. fault.OutsideCost (k + 1))
          (first_where (is_outside_cost U rs) (length rs)) o.0;
      before = (or_parts (nat_lt 60000000 until) (list_any (is_past until) rs)
          (if_none (nat_lt 60000000 until || list_any (is_past until) rs) fault.PastHorizon d.0)).1;
    }

-- ---- sorted lists
pub not_lt : (a b : ℕ) → nat_lt a b ≡ false → b ≤ a
not_lt a b f = elim (cases_lt a b) [
  | inl lt ↦ absurd (true≢false (sym (lt-ltb a b lt) ∙ f))
  | inr ge ↦ ge
]

sorted_by : (rs : List Release) → ((k : ℕ) → k < length rs → is_unsorted rs k ≡ false) → (i d : ℕ)
    → i + d < length rs → (release_at rs i).time ≤ (release_at rs (i + d)).time
sorted_by rs h i zero lt = (let z : (release_at rs (i + 0)).time ≡ (release_at rs i).time =
    ap (λ k. (release_at rs k).time) (omega arith) in omega arith)
sorted_by rs h i (suc d) lt =
    let before : (release_at rs i).time ≤ (release_at rs (i + d)).time =
    sorted_by rs h i d (omega arith) in
    let f : nat_lt (release_at rs (suc (i + d))).time (release_at rs (i + d)).time ≡ false =
    h (suc (i + d)) (omega arith) in
    let step : (release_at rs (i + d)).time ≤ (release_at rs (suc (i + d))).time =
    not_lt (release_at rs (suc (i + d))).time (release_at rs (i + d)).time f in
    let z : (release_at rs (i + suc d)).time ≡ (release_at rs (suc (i + d))).time =
    ap (λ k. (release_at rs k).time) (omega arith) in
    omega arith

pub sorted_from : (rs : List Release) → first_where (is_unsorted rs) (length rs) ≡ None → (i j : ℕ)
    → i ≤ j → j < length rs → (release_at rs i).time ≤ (release_at rs j).time
sorted_from rs e i j le lt =
    let to : i + (j - i) ≡ j = omega arith in
    let h = sorted_by rs (first_none (is_unsorted rs) (length rs) e) i (j - i) (omega arith) in
    subst (λ k. (release_at rs i).time ≤ (release_at rs k).time) to h

-- ---- known tasks
position_below : (p : Task → Bool) (xs : List Task) → is_none (position p xs) ≡ false
    → unwrap_or (position p xs) (length xs) < length xs
position_below p xs h =
    elim (position p xs) as (λ o. position p xs ≡ o → is_none o ≡ false
    → unwrap_or o (length xs) < length xs) [
      | None ↦ λ e f. absurd (true≢false f)
      | Some i ↦ λ e f. (position-Some p xs i no_task e).0
    ] refl h

pub known_from : (U : List Task) (rs : List Release) → first_where (is_unknown U rs) (length rs)
    ≡ None → (j : ℕ) → j < length rs → task_number U (release_at rs j) < length U
known_from U rs e j lt = position_below (λ t. same_bytes t.name (release_at rs j).name) U
    (first_none (is_unknown U rs) (length rs) e j lt)

-- the kept index of a task is one of the set
pub place_in : (U : List Task) (rs : List Release) (places : List ℕ) (k : ℕ)
    → places ≡ map (task_number U) rs → first_where (is_unknown U rs) (length rs) ≡ None
    → k < length rs → get_or places k 0 < length U
place_in U rs places k e known lt =
    omega (arith, place_is U rs places k e lt, known_from U rs known k lt)

-- ---- the last release of each task
pub record AreLast (U : List Task) (rs : List Release) (n : ℕ)
    (last : List (Option ℕ)) : Type 0 where
  pub count : length last ≡ 32
  pub known : (j : ℕ) → j < n → (l : ℕ)
      × (slice_index_or last (task_number U (release_at rs j)) None ≡ Some l)
      × ((release_at rs j).time ≤ l)
  pub some : (i l : ℕ) → slice_index_or last i None ≡ Some l → (j : ℕ) × (j < n)
      × (task_number U (release_at rs j) ≡ i) × ((release_at rs j).time ≡ l)

pub last_start : (U : List Task) (rs : List Release) → AreLast U rs 0 (replicate 32 None)
last_start U rs = record {
  count = length-replicate {A = Option ℕ} 32 None;
  known = λ j lt. absurd (omega arith);
  some = λ i l e. absurd (none-some l (sym (replicated {X = Option ℕ} 32 i None) ∙ e));
}

module _ (U : List Task) (rs : List Release)
    (sorted : (i j : ℕ) → i ≤ j → j < length rs → (release_at rs i).time ≤ (release_at rs j).time)
    (k : ℕ) (lt : k < length rs) (last : List (Option ℕ)) (are : AreLast U rs k last) where
  abbrev task_no : ℕ → ℕ
  task_no j = task_number U (release_at rs j)

  abbrev time_of : ℕ → ℕ
  time_of j = (release_at rs j).time

  -- the last time of its task isn't after it
  pub last_before : (l : ℕ) → slice_index_or last (task_no k) None ≡ Some l → l ≤ time_of k
  last_before l e =
      let w = are.some (task_no k) l e in
      let s : time_of w.0 ≤ time_of k = sorted w.0 k (omega (arith, w.1)) lt in
      omega (arith, w.3)

  pub last_more : task_no k < 32 → AreLast U rs (k + 1) (set last (task_no k) (Some (time_of k)))
  last_more small =
      let c : length last ≡ 32 = are.count in
      let inside : task_no k < length last = omega arith in
      record {
        count = length-set last (task_no k) (Some (time_of k)) ∙ are.count;
        known = λ j below. elim (cases_eq (task_no j) (task_no k)) [
          | inl same ↦ (
            time_of k,
            subst (λ x. slice_index_or (set last (task_no k)
                (Some (time_of k))) x None ≡ Some (time_of k)) (sym same) (get_or-set_same last
                (task_no k) (Some (time_of k)) None inside),
            sorted j k (omega arith) lt,
          )
          | inr other ↦
              let before : j < k = elim (cases_eq j k) [
                | inl e ↦ absurd (other (ap task_no e))
                | inr ne ↦ omega arith
              ] in
              let w = are.known j before in (
                w.0,
                get_or-set_other last (task_no k) (task_no j) (Some (time_of k)) None other
                    ∙ w.1,
                w.2,
              )
        ];
        some = λ i l e. elim (cases_eq i (task_no k)) [
          | inl same ↦
              let here = subst (λ x. slice_index_or (set last (task_no k) (Some (time_of k))) x None
              ≡ Some l) same e in
              let is = sym (get_or-set_same last (task_no k) (Some (time_of k)) None inside) ∙
              here in
              (k, omega arith, sym same, cc (is))
          | inr other ↦
              let w = are.some i l (sym (get_or-set_other last (task_no k) i (Some (time_of k)) None
              other) ∙ e) in
              (w.0, omega (arith, w.1), w.2, w.3)
        ];
      }

  too_soon_job : (j : ℕ) → j < k → is_soon_job U (jobs_of U rs) k j ≡ ((task_no j == task_no k)
      && nat_lt (time_of k) (time_of j + (task_at U (task_no k)).period))
  too_soon_job j before =
      let ej : job_at (jobs_of U rs) j ≡ job_of U (release_at rs j) = job_is U rs j (omega arith) in
      ap₂ (λ x y. (x.task == y.task) && nat_lt y.arrival (x.arrival + (task_at U y.task).period)) ej
      (job_is U rs k lt)

  pub too_soon_is : is_too_soon U (jobs_of U rs) k
      ≡ soon_after (slice_index_or last (task_no k) None) (time_of k) (task_at U (task_no k)).period
  too_soon_is =
      elim (slice_index_or last (task_no k) None) as
      (λ o. slice_index_or last (task_no k) None ≡ o → is_too_soon U (jobs_of U rs) k
      ≡ soon_after o (time_of k) (task_at U (task_no k)).period) [
        | None ↦ λ e. some_below-none k (is_soon_job U (jobs_of U rs) k)
            (λ j before. too_soon_job j before ∙ elim (cases_eq (task_no j) (task_no k)) [
              | inl same ↦
                  let w = are.known j before in
                  absurd (none-some w.0 (sym e
                  ∙ subst (λ x. slice_index_or last x None ≡ Some w.0) same w.1))
              | inr other ↦ rw (ne_eqb (task_no j) (task_no k) other)
            ])
        | Some l ↦ λ e.
            let w = are.some (task_no k) l e in
            elim (cases_lt (time_of k) (l + (task_at U (task_no k)).period)) [
              | inl soon ↦
                  let t = lt-ltb (time_of k) (time_of w.0 + (task_at U (task_no k)).period)
                  (omega (arith, w.3)) in
                  some_below-at k (is_soon_job U (jobs_of U rs) k) w.0 w.1
                  (too_soon_job w.0 w.1 ∙ rw (eq-eqb (task_no w.0) (task_no k) w.2, t)) ∙ sym
                  (lt-ltb (time_of k) (l + (task_at U (task_no k)).period) soon)
              | inr late ↦
                  some_below-none k (is_soon_job U (jobs_of U rs) k)
                  (λ j before. too_soon_job j before ∙ elim (cases_eq (task_no j) (task_no k)) [
                    | inl same ↦
                        let v = are.known j before in
                        let v' = subst (λ x. slice_index_or last x None ≡ Some v.0) same v.1 in
                        let one : v.0 ≡ l = cc (e, v') in
                        let f = le-ltb (time_of k) (time_of j + (task_at U (task_no k)).period)
                        (omega (arith, v.2)) in
                        rw (eq-eqb (task_no j) (task_no k) same, f)
                    | inr other ↦ rw (ne_eqb (task_no j) (task_no k) other)
                  ]) ∙ sym (le-ltb (time_of k) (l + (task_at U (task_no k)).period) late)
            ]
      ] refl

  pub too_soon_at : (i time period : ℕ) (b : Bool) → i ≡ task_no k → time ≡ time_of k → period
      ≡ (task_at U (task_no k)).period → b ≡ soon_after (slice_index_or last i None) time period
      → is_too_soon U (jobs_of U rs) k ≡ b
  too_soon_at i time period b ei et ep eb =
      let a = ap (λ x. soon_after (slice_index_or last x None) time period) ei ∙ ap₂
      (λ x y. soon_after (slice_index_or last (task_no k) None) x y) et ep in
      too_soon_is ∙ (sym a ∙ sym eb)

  -- the same, where the sheet is read by a kept index
  pub too_soon_read : (places : List ℕ) (sheets : List Task) (sheet : Task) (r : Release)
      (period : ℕ) (b : Bool) → places ≡ map (task_number U) rs
      → first_where (is_unknown U rs) (length rs) ≡ None
      → sheets ≡ U → sheet ≡ get_or sheets (get_or places k 0) sheet → period ≡ sheet.period → b
      ≡ soon_after (slice_index_or last (get_or places k 0) None) (get_or rs k r).time period
      → is_too_soon U (jobs_of U rs) k ≡ b
  too_soon_read places sheets sheet r period b kept known same is ep eb =
      let i : get_or places k 0 ≡ task_no k = place_is U rs places k kept lt in
      let time = ap (λ x. x.time) (get_or_default rs k r no_release lt) in
      let read = is ∙ (ap (λ (xs : List Task). get_or xs (get_or places k 0) sheet) same ∙
      (ap (λ z. get_or U z sheet) i ∙ get_or_default U (task_no k) sheet no_task
      (known_from U rs known k lt))) in
      too_soon_at (get_or places k 0) (get_or rs k r).time period b i time
      (ep ∙ ap (λ (t : Task). t.period) read) eb

  pub last_next : (i time : ℕ) → i ≡ task_no k → time ≡ time_of k → task_no k < 32
      → AreLast U rs (k + 1) (set last i (Some time))
  last_next i time ei et small = subst (λ x. AreLast U rs (k + 1) (set last x (Some time))) (sym ei)
      (subst (λ x. AreLast U rs (k + 1) (set last (task_no k) (Some x))) (sym et) (last_more small))

-- ---- the tasks of the releases
pub unknown_at : (U : List Task) (rs : List Release) (k : ℕ) (r : Release) (o : Option ℕ)
    → k < length rs → o ≡ task_named U (get_or rs k r).name → is_unknown U rs k ≡ is_none o
unknown_at U rs k r o lt eo = ap (λ x. is_none (task_named U x.name))
    (get_or_default rs k no_release r lt) ∙ ap is_none (sym eo)

pub numbers-next : (U : List Task) (rs : List Release) (places : List ℕ) (k task : ℕ) (r : Release)
    → k < length rs → Some task ≡ task_named U (get_or rs k r).name
    → places ≡ map (task_number U) (take k rs)
    → places ++ task ∷ [] ≡ map (task_number U) (take (k + 1) rs)
numbers-next U rs places k task r lt et ep =
    let e : task ≡ task_number U (get_or rs k r) = ap (λ o. unwrap_or o (length U)) et in
    ap₂ (λ x y. x ++ y ∷ []) ep e ∙ sym (map_more (task_number U) rs k r lt)

-- ---- how late they are
pub too_late_at : (U : List Task) (rs : List Release) (k i jitter : ℕ) (r : Release) (t : Task)
    (b : Bool) → k < length rs → i ≡ task_number U (release_at rs k) → i < length U
    → t ≡ get_or U i t → jitter ≡ t.jitter
    → b ≡ nat_lt jitter (get_or rs k r).late → is_too_late U rs k ≡ b
too_late_at U rs k i jitter r t b lt is known et ej eb =
    let task = ap (λ n. (task_at U n).jitter) (sym is) ∙
    (ap (λ x. x.jitter) (get_or_default U i no_task t known ∙ sym et) ∙ sym ej) in
    ap₂ nat_lt task (ap (λ x. x.late) (get_or_default rs k no_release r lt)) ∙ sym eb

-- ---- how long they execute
pub outside_at : (U : List Task) (rs : List Release) (k i cost : ℕ) (r : Release) (t : Task)
    → k < length rs → i ≡ task_number U (release_at rs k) → i < length U → t ≡ get_or U i t
    → cost ≡ t.cost
    → is_outside_cost U rs k ≡ ((unwrap_or (get_or rs k r).runs cost == 0)
    || nat_lt cost (unwrap_or (get_or rs k r).runs cost))
outside_at U rs k i cost r t lt is known et ec =
    let task = ap (λ n. (task_at U n).cost) (sym is) ∙ (ap (λ x. x.cost)
    (get_or_default U i no_task t known ∙ sym et) ∙ sym ec) in
    ap₂ (λ c o. (unwrap_or o c == 0) || nat_lt c (unwrap_or o c)) task
    (ap (λ x. x.runs) (get_or_default rs k no_release r lt))

-- a release that isn't outside executes something, and no more than the cost
pub inside_cost : (runs cost : ℕ) → ((runs == 0) || nat_lt cost runs) ≡ false → (0 < runs)
    × (runs ≤ cost)
inside_cost runs cost h =
    let p = or_parts (runs == 0) (nat_lt cost runs) h in
    let some : 0 < runs = elim (cases_eq runs 0) [
      | inl z ↦
          absurd (true≢false (sym (eq-eqb runs 0 z) ∙ p.0))
      | inr nz ↦ omega arith
    ] in
    (some, not_lt cost runs p.1)

-- where no element passes a test, one that is read doesn't
pub none_passes : {X : Type 0} (p : X → Bool) (xs : List X) (k : ℕ) (d : X) → k < length xs
    → list_any p xs ≡ false → p (get_or xs k d) ≡ false
none_passes p xs k d lt none = elim (cases_Bool (p (get_or xs k d))) [
  | inl passes ↦
      absurd (true≢false (sym (list_any_at p xs k d lt passes) ∙ none))
  | inr fails ↦ fails
]
