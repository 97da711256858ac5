-- Each job has one place: the last one up to it at which a band of its task begins.
use Rattle.std.proofs.Common.{◌≡◌, ◌⊎◌, inl, inr, ℕ, suc, zero, ◌+◌, ◌-◌, ◌<◌, ◌≤◌, List, length}
use Rattle.std.proofs.Common.{Bool, true, false, not, Option, None, refl, sym, ap, ◌∙◌, subst}
use Rattle.std.proofs.Common.{arith}
use Rattle.std.specs.Prelude.{nat_lt, nat_le}
use Rattle.std.proofs.lemmas.Bool.{both_ways, cases_Bool, cases_lt, cases_order, and_parts}
use Rattle.std.proofs.lemmas.Bool.{and_from, and_left, and_right, not-true, lt-ltb, le-leb}
use Rattle.std.proofs.lemmas.Bool.{ltb-true, leb-true}
use Rattle.task_sheet.proofs.NameLaws.{same_own, same_is}
use Rattle.ceiling_kernel.specs.declared.trace.JobRecord.{JobRecord}
use Rattle.pieces.specs.Bands.{job_of, is_of, last_of, is_close, joins, begins, next_from, next_of}
use Rattle.pieces.specs.Bands.{is_within, is_behind, holds_job}

-- ---- where the next band begins
module _ (gap : ℕ) (jobs : List JobRecord) (name : List ℕ) where
  pub next_within : (n more : ℕ) → (n ≤ next_from gap jobs name n more)
      × (next_from gap jobs name n more ≤ n + more)
  unfolding next_from
  next_within n zero = (omega arith, omega arith)
  next_within n (suc more) =
      let rest = next_within (n + 1) more in
      elim (cases_Bool (begins gap jobs name n)) [
        | inl h ↦ rw h (omega arith, omega arith)
        | inr h ↦ rw h (omega (arith, rest.0), omega (arith, rest.1))
      ]

  -- no further than a place at which a band begins
  next_upto : (q n more : ℕ) → begins gap jobs name q ≡ true → n ≤ q → q < n + more
      → next_from gap jobs name n more ≤ q
  unfolding next_from
  next_upto q n zero is lo hi = absurd (omega (arith, lo, hi))
  next_upto q n (suc more) is lo hi =
      elim (cases_Bool (begins gap jobs name n)) [
        | inl h ↦ rw h lo
        | inr h ↦ elim (cases_lt n q) [
          | inl lt ↦ rw h (next_upto q (n + 1) more is (omega (arith, lt)) (omega (arith, hi)))
          | inr ge ↦ let e : q ≡ n = omega (arith, lo, ge) in
              absurd (both_ways (begins gap jobs name n) h (ap (begins gap jobs name) (sym e) ∙ is))
        ]
      ]

  -- past a place up to which none begins
  next_past : (j n more : ℕ) → ((q : ℕ) → n ≤ q → q ≤ j → begins gap jobs name q ≡ false)
      → j < n + more → j < next_from gap jobs name n more
  unfolding next_from
  next_past j n zero clear lt = omega (arith, lt)
  next_past j n (suc more) clear lt =
      elim (cases_Bool (begins gap jobs name n)) [
        | inr h ↦ rw h (next_past j (n + 1) more (λ q lo hi. clear q (omega (arith, lo)) hi)
            (omega (arith, lt)))
        | inl h ↦ elim (cases_lt j n) [
          | inl below ↦ rw h below
          | inr ge ↦ absurd (both_ways (begins gap jobs name n) (clear n (omega arith) ge) h)
        ]
      ]

-- ---- the last band that begins below a place
last_clear : (jobs : List JobRecord) (name : List ℕ) (n : ℕ)
    → ((q : ℕ) → q < n → is_of name (job_of jobs q) ≡ false) → last_of jobs name n ≡ None
unfolding last_of
last_clear jobs name zero clear = refl
last_clear jobs name (suc n) clear =
    rw (clear n (omega arith)) (last_clear jobs name n (λ q lt. clear q (omega (arith, lt))))

record Latest (gap : ℕ) (jobs : List JobRecord) (name : List ℕ) (m : ℕ) : Type 0 where
  place : ℕ
  below : place < m
  is : begins gap jobs name place ≡ true
  clear : (q : ℕ) → place < q → q < m → begins gap jobs name q ≡ false

longer : (gap : ℕ) (jobs : List JobRecord) (name : List ℕ) (m : ℕ) → Latest gap jobs name m
    → begins gap jobs name m ≡ false → Latest gap jobs name (suc m)
longer gap jobs name m l not_here = record {
  place = l.place;
  below = let b : l.place < m = l.below in omega (arith, b);
  is = l.is;
  clear = λ q lo hi. elim (cases_lt q m) [
    | inl lt ↦ l.clear q lo lt
    | inr ge ↦ let at : m ≡ q = omega (arith, hi, ge) in
        subst (λ (z : ℕ). begins gap jobs name z ≡ false) at not_here
  ];
}

-- the first job of a task joins none
first_apart : (gap : ℕ) (jobs : List JobRecord) (name : List ℕ) (m : ℕ)
    → ((q : ℕ) → q < m → is_of name (job_of jobs q) ≡ false) → is_of name (job_of jobs m) ≡ true
    → joins gap jobs m ≡ false
first_apart gap jobs name m none is =
    let same : (job_of jobs m).name ≡ name = same_is (job_of jobs m).name name is in
    ap (λ (n : List ℕ). is_close gap (last_of jobs n m) (job_of jobs m)) same
    ∙ ap (λ (o : Option JobRecord). is_close gap o (job_of jobs m)) (last_clear jobs name m none)

latest : (gap : ℕ) (jobs : List JobRecord) (name : List ℕ) (m : ℕ)
    → ((q : ℕ) → q < m → is_of name (job_of jobs q) ≡ false) ⊎ Latest gap jobs name m
latest gap jobs name zero = inl (λ q lt. absurd (omega (arith, lt)))
latest gap jobs name (suc m) =
    by (is_of name (job_of jobs m)) refl (joins gap jobs m) refl (latest gap jobs name m)
  where
    by : (a : Bool) → is_of name (job_of jobs m) ≡ a → (b : Bool) → joins gap jobs m ≡ b
        → ((q : ℕ) → q < m → is_of name (job_of jobs q) ≡ false) ⊎ Latest gap jobs name m
        → ((q : ℕ) → q < suc m → is_of name (job_of jobs q) ≡ false) ⊎ Latest gap jobs name (suc m)
    by false ha b hb (inl none) = inl (λ q lt. elim (cases_lt q m) [
      | inl below ↦ none q below
      | inr ge ↦ let at : m ≡ q = omega (arith, lt, ge) in
          subst (λ (z : ℕ). is_of name (job_of jobs z) ≡ false) at ha
    ])
    by false ha b hb (inr l) = inr (longer gap jobs name m l
        (and_left (is_of name (job_of jobs m)) (not (joins gap jobs m)) ha))
    by true ha false hb prior = inr (record {
      place = m;
      below = omega arith;
      is = and_from (is_of name (job_of jobs m)) (not (joins gap jobs m)) ha (ap not hb);
      clear = λ q lo hi. absurd (omega (arith, lo, hi));
    })
    by true ha true hb (inl none) =
        absurd (both_ways (joins gap jobs m) (first_apart gap jobs name m none ha) hb)
    by true ha true hb (inr l) = inr (longer gap jobs name m l
        (and_right (is_of name (job_of jobs m)) (not (joins gap jobs m)) (ap not hb)))

-- ---- what a band holds
record Held (gap : ℕ) (jobs : List JobRecord) (n j : ℕ) : Type 0 where
  apart : joins gap jobs n ≡ false
  same : (job_of jobs n).name ≡ (job_of jobs j).name
  from : n ≤ j
  below : j < next_of gap jobs n

held : (gap : ℕ) (jobs : List JobRecord) (n j : ℕ) → holds_job gap jobs n j ≡ true
    → Held gap jobs n j
held gap jobs n j h =
    let name = (job_of jobs n).name in
    let next = next_of gap jobs n in
    let parts = and_parts (not (joins gap jobs n)) (is_behind gap jobs n j) h in
    let behind = and_parts (is_of name (job_of jobs j)) (is_within n next j) parts.1 in
    let within = and_parts (nat_le n j) (nat_lt j next) behind.1 in
    record {
      apart = not-true (joins gap jobs n) parts.0;
      same = sym (same_is (job_of jobs j).name name behind.0);
      from = leb-true n j within.0;
      below = ltb-true j next within.1;
    }

holding : (gap : ℕ) (jobs : List JobRecord) (n j : ℕ) → joins gap jobs n ≡ false
    → is_of (job_of jobs n).name (job_of jobs j) ≡ true → n ≤ j → j < next_of gap jobs n
    → holds_job gap jobs n j ≡ true
holding gap jobs n j apart same from below =
    let name = (job_of jobs n).name in
    let next = next_of gap jobs n in
    and_from (not (joins gap jobs n)) (is_behind gap jobs n j) (ap not apart)
    (and_from (is_of name (job_of jobs j)) (is_within n next j) same
    (and_from (nat_le n j) (nat_lt j next) (le-leb n j from) (lt-ltb j next below)))

-- a band begins with the job that holds another, of that one's task
begun : (gap : ℕ) (jobs : List JobRecord) (m j : ℕ) → Held gap jobs m j
    → begins gap jobs (job_of jobs j).name m ≡ true
begun gap jobs m j h =
    and_from (is_of (job_of jobs j).name (job_of jobs m)) (not (joins gap jobs m))
    (subst (λ (name : List ℕ). is_of name (job_of jobs m) ≡ true) h.same
    (same_own (job_of jobs m).name)) (ap not h.apart)

-- the one place of a job
pub record Place (gap : ℕ) (jobs : List JobRecord) (j : ℕ) : Type 0 where
  pub place : ℕ
  pub holds : holds_job gap jobs place j ≡ true
  pub only : (m : ℕ) → holds_job gap jobs m j ≡ true → m ≡ place
  pub apart : joins gap jobs place ≡ false
  pub same : (job_of jobs place).name ≡ (job_of jobs j).name
  pub from : place ≤ j
  pub below : j < next_of gap jobs place

stands_at : (gap : ℕ) (jobs : List JobRecord) (j : ℕ) → j < length jobs
    → Latest gap jobs (job_of jobs j).name (suc j) → Place gap jobs j
stands_at gap jobs j lt l =
    let name = (job_of jobs j).name in
    let p = l.place in
    let some : p < suc j = l.below in
    let is = and_parts (is_of name (job_of jobs p)) (not (joins gap jobs p)) l.is in
    let same : (job_of jobs p).name ≡ name = same_is (job_of jobs p).name name is.0 in
    let apart : joins gap jobs p ≡ false = not-true (joins gap jobs p) is.1 in
    let clear : (q : ℕ) → p + 1 ≤ q → q ≤ j → begins gap jobs (job_of jobs p).name q ≡ false =
    λ q lo hi. subst (λ (z : List ℕ). begins gap jobs z q ≡ false) (sym same)
    (l.clear q (omega (arith, lo)) (omega (arith, hi))) in
    let under : j < next_of gap jobs p = next_past gap jobs (job_of jobs p).name j (p + 1)
    (length jobs - (p + 1)) clear (omega (arith, lt, some)) in
    let own : is_of (job_of jobs p).name (job_of jobs j) ≡ true =
    subst (λ (z : List ℕ). is_of z (job_of jobs j) ≡ true) (sym same) (same_own name) in
    record {
      place = p;
      holds = holding gap jobs p j apart own (omega (arith, some)) under;
      only = λ m h. one m (held gap jobs m j h) (cases_order m p);
      apart = apart;
      same = same;
      from = omega (arith, some);
      below = under;
    }
  where
    one : (m : ℕ) → Held gap jobs m j → (m ≡ l.place) ⊎ ((m < l.place) ⊎ (l.place < m))
        → m ≡ l.place
    one m h (inl is) = is
    one m h (inr (inl before)) =
        let some : l.place < suc j = l.below in
        let below : j < next_of gap jobs m = h.below in
        let begins_there : begins gap jobs (job_of jobs m).name l.place ≡ true =
        subst (λ (z : List ℕ). begins gap jobs z l.place ≡ true) (sym h.same) l.is in
        let upto : next_of gap jobs m ≤ l.place =
        next_upto gap jobs (job_of jobs m).name l.place (m + 1) (length jobs - (m + 1))
        begins_there (omega (arith, before)) (omega (arith, before, some, lt)) in
        absurd (omega (arith, upto, below, some))
    one m h (inr (inr behind)) =
        let from : m ≤ j = h.from in
        absurd (both_ways (begins gap jobs (job_of jobs j).name m)
        (l.clear m behind (omega (arith, from))) (begun gap jobs m j h))

pub place_of : (gap : ℕ) (jobs : List JobRecord) (j : ℕ) → j < length jobs → Place gap jobs j
place_of gap jobs j lt = elim (latest gap jobs (job_of jobs j).name (suc j)) [
  | inl none ↦ absurd (both_ways (is_of (job_of jobs j).name (job_of jobs j)) (none j (omega arith))
      (same_own (job_of jobs j).name))
  | inr l ↦ stands_at gap jobs j lt l
]

-- a job that joins none stands in its own
pub stands_first : (gap : ℕ) (jobs : List JobRecord) (j : ℕ) → joins gap jobs j ≡ false
    → holds_job gap jobs j j ≡ true
stands_first gap jobs j apart =
    holding gap jobs j j apart (same_own (job_of jobs j).name) (omega arith) (omega (
      arith,
      (next_within gap jobs (job_of jobs j).name (j + 1) (length jobs - (j + 1))).0,
    ))
