-- The job that a slice is of, among jobs and slices that stand by time.
use Rattle.std.proofs.Common.{◌≡◌, ◌∙◌, ℕ, zero, suc, ◌+◌, ◌<◌, ◌≤◌, Bool, true, false, nat_le, nat_lt}
use Rattle.std.proofs.Common.{List, [], ◌∷◌, ◌++◌, length, get_or, Option, Some, None, unwrap_or, position, cond, drop, not, reverse}
use Rattle.std.proofs.Common.{refl, sym, ap, arith, append_assoc}
use Rattle.std.specs.List.{filter, find, position_or_len}
use Rattle.std.specs.Option.{option_or}
use Rattle.std.proofs.lemmas.Bool.{and_left, and_parts, and_right, leb-true, lt-leb, le-leb, le-ltb, ltb-false, ltb-true, lt-ltb, not-false, true≢false}
use Rattle.std.specs.Prelude.{if◌then◌else◌}
use Rattle.std.proofs.lemmas.Grind.{reverse_onto}
use Rattle.std.proofs.lemmas.List.{drop_more}
use Rattle.std.proofs.lemmas.List.Folds.{find-append}
use Rattle.std.proofs.lemmas.List.Sums.{position_or_len_is}
use Rattle.task_sheet.specs.Sheet.{same_bytes}
use Rattle.trace_text.specs.declared.rows.TraceJob.{TraceJob}
use Rattle.trace_text.specs.declared.rows.TraceSlice.{TraceSlice}
use Rattle.observed.specs.Pieces.{is_of, job_of}
use Rattle.observed.specs.Seen.{last_from, last_job}
use Rattle.observed.specs.Sweeps.{AreAlike, IsSwept, arrive_from, begin_behind, ended_by, goes_on, is_over, place_in, stand_from}
use Rattle.observed.specs.declared.sweeps.Standing.{Standing}

-- the first place that passes a test, and that none does
pub position_is : {X : Type 0} (p : X → Bool) (xs : List X) (i : ℕ) (d : X) → i < length xs
    → ((k : ℕ) → k < i → p (get_or xs k d) ≡ false) → p (get_or xs i d) ≡ true
    → position p xs ≡ Some i
position_is p xs i d lt before here =
    let at = position_or_len_is p xs i d (omega (arith, lt)) before (λ _. here) in
    let small : nat_lt i (length xs) ≡ true = lt-ltb i (length xs) lt in
    rw (at, small) refl

-- stands past the end of a list of jobs
abbrev pub no_job : TraceJob
no_job = record { line = 0; name = []; arrival = 0; finish = None; ready = None }

-- ---- by arrival
arrive_least : (least : ℕ) (js : List TraceJob) (k : ℕ) (d : TraceJob)
    → arrive_from least js ≡ true → k < length js → least ≤ (get_or js k d).arrival
arrive_least least [] k d rises lt = absurd (omega (arith, lt))
arrive_least least (j ∷ js) zero d rises lt =
    leb-true least j.arrival (and_parts (nat_le least j.arrival) (arrive_from j.arrival js) rises).0
arrive_least least (j ∷ js) (suc k) d rises lt =
    let each = and_parts (nat_le least j.arrival) (arrive_from j.arrival js) rises in
    omega (
      arith,
      leb-true least j.arrival each.0,
      arrive_least j.arrival js k d each.1 (omega (arith, lt)),
    )

-- no sooner than a job before it
pub arrive_later : (least : ℕ) (js : List TraceJob) (i k : ℕ) (d : TraceJob)
    → arrive_from least js ≡ true → i ≤ k → k < length js
    → (get_or js i d).arrival ≤ (get_or js k d).arrival
arrive_later least [] i k d rises le lt = absurd (omega (arith, lt))
arrive_later least (j ∷ js) zero zero d rises le lt = omega arith
arrive_later least (j ∷ js) zero (suc k) d rises le lt =
    arrive_least j.arrival js k d
    (and_parts (nat_le least j.arrival) (arrive_from j.arrival js) rises).1 (omega (arith, lt))
arrive_later least (j ∷ js) (suc i) zero d rises le lt = absurd (omega (arith, le))
arrive_later least (j ∷ js) (suc i) (suc k) d rises le lt =
    arrive_later j.arrival js i k d
    (and_parts (nat_le least j.arrival) (arrive_from j.arrival js) rises).1 (omega (arith, le))
    (omega (arith, lt))

-- ---- whose a slice isn't
-- a job's that arrives behind its begin
pub not_yet : (slice : TraceSlice) (job : TraceJob) → slice.start < job.arrival
    → is_of slice job ≡ false
not_yet slice job lt =
    let late : nat_le job.arrival slice.start ≡ false = lt-leb job.arrival slice.start lt in
    and_right (same_bytes job.name slice.name) _ (and_left (nat_le job.arrival slice.start) _ late)

ended : (time stop : ℕ) (o : Option ℕ) → ended_by time o ≡ true → time < stop
    → nat_le stop (unwrap_or o stop) ≡ false
ended time stop None over lt = absurd (true≢false (sym over))
ended time stop (Some f) over lt =
    lt-leb stop f (omega (arith, leb-true f time over, lt))

-- a job's that was over when it began
pub no_more : (slice : TraceSlice) (job : TraceJob) → is_over slice.start job ≡ true
    → slice.start < slice.stop → is_of slice job ≡ false
no_more slice job over lt =
    and_right (same_bytes job.name slice.name) _
    (and_right (nat_le job.arrival slice.start) _ (ended slice.start slice.stop job.finish over lt))

later_by : (a b : ℕ) (o : Option ℕ) → a ≤ b → ended_by a o ≡ true → ended_by b o ≡ true
later_by a b None le over = absurd (true≢false (sym over))
later_by a b (Some f) le over = le-leb f b (omega (arith, leb-true f a over, le))

-- who is over, stays so
pub still_over : (a b : ℕ) (job : TraceJob) → a ≤ b → is_over a job ≡ true → is_over b job ≡ true
still_over a b job le over = later_by a b job.finish le over

-- ---- a sweep over jobs and slices
-- nothing is of jobs that all arrive behind a slice's begin
none_from : (slice : TraceSlice) (place least : ℕ) (js : List TraceJob) → slice.start < least
    → arrive_from least js ≡ true → place_in slice (stand_from place js) ≡ None
none_from slice place least [] lt rises = refl
none_from slice place least (j ∷ js) lt rises =
    let each = and_parts (nat_le least j.arrival) (arrive_from j.arrival js) rises in
    let at : least ≤ j.arrival = leb-true least j.arrival each.0 in
    ap (λ b. cond b (Some place) (place_in slice (stand_from (place + 1) js)))
    (not_yet slice j (omega (arith, lt, at)))
    ∙ none_from slice (place + 1) j.arrival js (omega (arith, lt, at)) each.1

none_behind : (slice : TraceSlice) (place : ℕ) (js : List TraceJob) → arrive_from 0 js ≡ true
    → begin_behind slice.start js ≡ true → place_in slice (stand_from place js) ≡ None
none_behind slice place [] rises behind = refl
none_behind slice place (j ∷ js) rises behind =
    let each = and_parts (nat_le 0 j.arrival) (arrive_from j.arrival js) rises in
    let lt : slice.start < j.arrival = ltb-true slice.start j.arrival behind in
    ap (λ b. cond b (Some place) (place_in slice (stand_from (place + 1) js))) (not_yet slice j lt)
    ∙ none_from slice (place + 1) j.arrival js lt each.1

-- those that stand by arrival, behind the first, too
pub arrive_lower : (least : ℕ) (js : List TraceJob) → arrive_from least js ≡ true
    → arrive_from 0 js ≡ true
arrive_lower least [] rises = refl
arrive_lower least (j ∷ js) rises = rw (le-leb 0 j.arrival (omega arith))
    (and_parts (nat_le least j.arrival) (arrive_from j.arrival js) rises).1

-- the first of both, of which the second has none
place_append : (slice : TraceSlice) (xs ys : List Standing) → place_in slice ys ≡ None
    → place_in slice (xs ++ ys) ≡ place_in slice xs
place_append slice [] ys none = none
place_append slice (x ∷ xs) ys none =
    ap (λ (o : Option ℕ). cond (is_of slice x.job) (Some x.place) o) (place_append slice xs ys none)

-- without those that another test leaves out
place_kept : (slice : TraceSlice) (q : Standing → Bool) (xs ys : List Standing)
    → ((s : Standing) → q s ≡ false → is_of slice s.job ≡ false)
    → place_in slice (filter q xs ++ ys) ≡ place_in slice (xs ++ ys)
place_kept slice q [] ys out = refl
place_kept slice q (x ∷ xs) ys out = go (place_kept slice q xs ys out) (q x) refl
  where
    go : place_in slice (filter q xs ++ ys) ≡ place_in slice (xs ++ ys) → (b : Bool) → q x ≡ b
        → place_in slice (cond b (x ∷ filter q xs) (filter q xs) ++ ys) ≡ place_in slice (x ∷ xs ++ ys)
    go more true keeps = ap (λ (o : Option ℕ). cond (is_of slice x.job) (Some x.place) o) more
    go more false goes =
        more ∙ sym (ap (λ b. cond b (Some x.place) (place_in slice (xs ++ ys))) (out x goes))

-- the same, behind others
in_place : (slice : TraceSlice) (xs one ys : List Standing) (q : Standing → Bool)
    → ((s : Standing) → q s ≡ false → is_of slice s.job ≡ false)
    → place_in slice (xs ++ (filter q one ++ ys)) ≡ place_in slice (xs ++ (one ++ ys))
in_place slice [] one ys q out = place_kept slice q one ys out
in_place slice (x ∷ xs) one ys q out =
    ap (λ (o : Option ℕ). cond (is_of slice x.job) (Some x.place) o) (in_place slice xs one ys q out)

-- what is over by a slice's begin, it isn't of
out_of : (time : ℕ) (slice : TraceSlice) → time ≤ slice.start → slice.start < slice.stop
    → (s : Standing) → goes_on time s ≡ false → is_of slice s.job ≡ false
out_of time slice le lasts s ends =
    no_more slice s.job (still_over time slice.start s.job le (not-false (is_over time s.job) ends))
    lasts

pub keep_alike : (time : ℕ) (xs ys : List Standing)
    → AreAlike time (filter (goes_on time) xs ++ ys) (xs ++ ys)
keep_alike time xs ys slice le lasts =
    place_kept slice (goes_on time) xs ys (out_of time slice le lasts)

-- the place of the first of all is that of the job that it is of
place_of_all : (slice : TraceSlice) (place : ℕ) (js : List TraceJob) → place_in slice (stand_from place js)
    ≡ cond (nat_lt (position_or_len (λ j. is_of slice j) js) (length js))
    (Some (place + position_or_len (λ j. is_of slice j) js)) None
place_of_all slice place [] = refl
place_of_all slice place (j ∷ js) = go (is_of slice j) (place_of_all slice (place + 1) js)
  where
    m : ℕ
    m = position_or_len (λ j. is_of slice j) js

    step : (b : Bool) → nat_lt m (length js) ≡ b → nat_lt (1 + m) (suc (length js)) ≡ b
    step true lt = lt-ltb (1 + m) (suc (length js)) (omega (arith, ltb-true m (length js) lt))
    step false ge = le-ltb (1 + m) (suc (length js)) (omega (arith, ltb-false m (length js) ge))

    pick : (b : Bool) → nat_lt m (length js) ≡ b
        → cond (nat_lt m (length js)) (Some (place + 1 + m)) None
        ≡ cond (nat_lt (1 + m) (suc (length js))) (Some (place + (1 + m))) None
    pick true is =
        let same : place + 1 + m ≡ place + (1 + m) = omega arith in
        rw (is, step true is) (ap (λ (n : ℕ). Some n) same)
    pick false is = rw (is, step false is) refl

    go : (b : Bool) → place_in slice (stand_from (place + 1) js)
        ≡ cond (nat_lt m (length js)) (Some (place + 1 + m)) None
        → cond b (Some place) (place_in slice (stand_from (place + 1) js))
        ≡ cond (nat_lt (cond (not b) (1 + m) 0) (suc (length js)))
        (Some (place + cond (not b) (1 + m) 0)) None
    go true more =
        let some : nat_lt 0 (suc (length js)) ≡ true = lt-ltb 0 (suc (length js)) (omega arith) in
        let same : place ≡ place + 0 = omega arith in
        rw (some) (ap (λ (n : ℕ). Some n) same)
    go false more = more ∙ pick (nat_lt m (length js)) refl

-- of a slice that begins then, where the others arrive later
pub found_of : (jobs : List TraceJob) (live : List Standing) (next : ℕ) (slice : TraceSlice)
    → IsSwept jobs slice.start live next → slice.start < slice.stop
    → begin_behind slice.start (drop next jobs) ≡ true → place_in slice live ≡ job_of jobs slice
found_of jobs live next slice swept lasts behind =
    let rest = stand_from next (drop next jobs) in
    let m : ℕ = position_or_len (λ j. is_of slice j) jobs in
    let same : 0 + m ≡ m = omega arith in
    sym (place_append slice live rest (none_behind slice next (drop next jobs) swept.order behind))
    ∙ (swept.alike slice (omega arith) lasts ∙ (place_of_all slice 0 jobs
    ∙ ap (λ (n : ℕ). cond (nat_lt m (length jobs)) (Some n) None) same))

-- one more place
pub swept_more : (jobs : List TraceJob) (time : ℕ) (live more : List Standing) (next : ℕ) (d : TraceJob)
    → IsSwept jobs time live next → next < length jobs
    → more ≡ live ++ filter (goes_on time) (stand_from next (get_or jobs next d ∷ []))
    → IsSwept jobs time more (next + 1)
swept_more jobs time live more next d swept lt is =
    let job = get_or jobs next d in
    let here : drop next jobs ≡ job ∷ drop (next + 1) jobs = drop_more jobs next d lt in
    let rest = stand_from (next + 1) (drop (next + 1) jobs) in
    let one : List Standing = stand_from next (job ∷ []) in
    let order : arrive_from 0 (job ∷ drop (next + 1) jobs) ≡ true =
    ap (arrive_from 0) (sym here) ∙ swept.order in
    let alike : AreAlike time (more ++ rest) (stand_from 0 jobs) = λ slice le lasts.
    ap (λ (xs : List Standing). place_in slice (xs ++ rest)) is
    ∙ (ap (place_in slice) (append_assoc live (filter (goes_on time) one) rest)
    ∙ (in_place slice live one rest (goes_on time) (out_of time slice le lasts)
    ∙ (ap (λ (js : List TraceJob). place_in slice (live ++ stand_from next js)) (sym here)
    ∙ swept.alike slice le lasts))) in
    record {
      within = omega (arith, lt);
      order = arrive_lower job.arrival (drop (next + 1) jobs)
          (and_parts (nat_le 0 job.arrival) (arrive_from job.arrival (drop (next + 1) jobs)) order).1;
      alike = alike;
    }

-- with those alone that aren't over
pub swept_kept : (jobs : List TraceJob) (time : ℕ) (live kept : List Standing) (next : ℕ)
    → IsSwept jobs time live next → kept ≡ filter (goes_on time) live → IsSwept jobs time kept next
swept_kept jobs time live kept next swept is =
    let rest = stand_from next (drop next jobs) in
    record {
      within = swept.within;
      order = swept.order;
      alike = λ slice le lasts. ap (λ (xs : List Standing). place_in slice (xs ++ rest)) is
          ∙ (keep_alike time live rest slice le lasts ∙ swept.alike slice le lasts);
    }

-- ---- the last job of a name
or_before : (o last : Option TraceJob) (j : TraceJob) (b : Bool)
    → option_or o (if b then Some j else last)
    ≡ option_or (option_or o (if b then Some j else None)) last
or_before None last j true = refl
or_before None last j false = refl
or_before (Some x) last j b = refl

from_reverse : (name : List ℕ) (js : List TraceJob) (last : Option TraceJob)
    → last_from name last js ≡ option_or (find (λ j. same_bytes j.name name) (reverse js)) last
from_reverse name [] last = refl
from_reverse name (j ∷ js) last =
    let test : TraceJob → Bool = λ j. same_bytes j.name name in
    from_reverse name js (if test j then Some j else last)
    ∙ or_before (find test (reverse js)) last j (test j)
    ∙ ap (λ o. option_or o last) (sym (find-append test (reverse js) (j ∷ [])))
    ∙ ap (λ xs. option_or (find test xs) last) (sym (reverse_onto js j []))

or_none : (o : Option TraceJob) → option_or o None ≡ o
or_none None = refl
or_none (Some x) = refl

-- the first from behind
pub last_reverse : (name : List ℕ) (js : List TraceJob)
    → find (λ j. same_bytes j.name name) (reverse js) ≡ last_job name js
last_reverse name js = sym (from_reverse name js None ∙ or_none _)
