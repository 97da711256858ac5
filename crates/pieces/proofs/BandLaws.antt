-- Each job is in one band.
use Rattle.std.proofs.Common.{◌≡◌, ℕ, ◌+◌, ◌-◌, ◌<◌, ◌≤◌, List, length, get_or, drop, Bool, true}
use Rattle.std.proofs.Common.{false, not, ◌&&◌, refl, sym, ap, ◌∙◌, arith}
use Rattle.std.specs.Prelude.{if◌then◌else◌, nat_lt, nat_le}
use Rattle.std.proofs.Math.Bool.{and-true}
use Rattle.std.proofs.lemmas.Bool.{and_left, and_right, lt-ltb, le-ltb, le-leb, lt-leb}
use Rattle.std.proofs.lemmas.List.{length-drop, get_or-drop}
use Rattle.task_sheet.specs.Indexes.{sum_below}
use Rattle.ceiling_kernel.specs.Runs.{no_record}
use Rattle.ceiling_kernel.specs.declared.trace.JobRecord.{JobRecord}
use Rattle.pieces.specs.Bands.{job_of, is_of, joins, next_of, band_of, is_within, is_behind}
use Rattle.pieces.specs.Bands.{holds_job}
use Rattle.pieces.specs.Laws.{counted_at, CountOnce}
use Rattle.pieces.proofs.PlaceLaws.{next_within, place_of}
use Rattle.task_sheet.proofs.Below.{sum_below-same}
use Rattle.pieces.proofs.BandSums.{zeros, ones, swapped, single, stretched, passing}

abbrev one_if : Bool → ℕ
one_if b = if b then 1 else 0

abbrev share : (gap : ℕ) → List JobRecord → (n j : ℕ) → ℕ
share gap jobs n j = one_if (holds_job gap jobs n j)

share_before : (gap : ℕ) (jobs : List JobRecord) (n j : ℕ) → j < n → share gap jobs n j ≡ 0
share_before gap jobs n j lt =
    let next = next_of gap jobs n in
    ap one_if (and_right (not (joins gap jobs n)) (is_behind gap jobs n j)
    (and_right (is_of (job_of jobs n).name (job_of jobs j)) (is_within n next j)
    (and_left (nat_le n j) (nat_lt j next) (lt-leb n j lt))))

share_behind : (gap : ℕ) (jobs : List JobRecord) (n j : ℕ) → next_of gap jobs n ≤ j
    → share gap jobs n j ≡ 0
share_behind gap jobs n j le =
    let next = next_of gap jobs n in
    ap one_if (and_right (not (joins gap jobs n)) (is_behind gap jobs n j)
    (and_right (is_of (job_of jobs n).name (job_of jobs j)) (is_within n next j)
    (and_right (nat_le n j) (nat_lt j next) (le-ltb j next le))))

all_true : (a b c d : Bool) → a ≡ false → c ≡ true → d ≡ true → b ≡ (not a && (b && (c && d)))
all_true a b c d p q r = rw p (rw q (rw r (sym (and-true b))))

share_within : (gap : ℕ) (jobs : List JobRecord) (n j : ℕ) → joins gap jobs n ≡ false
    → j < next_of gap jobs n - n
    → one_if (is_of (job_of jobs n).name (get_or (drop n jobs) j no_record))
    ≡ share gap jobs n (n + j)
share_within gap jobs n j apart lt =
    let next = next_of gap jobs n in
    ap (λ (x : JobRecord). one_if (is_of (job_of jobs n).name x)) (get_or-drop n jobs j no_record)
    ∙ ap one_if (all_true (joins gap jobs n) (is_of (job_of jobs n).name (job_of jobs (n + j)))
    (nat_le n (n + j)) (nat_lt (n + j) next) apart
    (le-leb n (n + j) (omega arith)) (lt-ltb (n + j) next (omega (arith, lt))))

-- what is counted at a place is what it holds of all jobs
share_sum : (gap : ℕ) (jobs : List JobRecord) (n : ℕ) → n < length jobs
    → counted_at gap jobs n ≡ sum_below (length jobs) (share gap jobs n)
share_sum gap jobs n lt = by (joins gap jobs n) refl
  where
    by : (b : Bool) → joins gap jobs n ≡ b
        → counted_at gap jobs n ≡ sum_below (length jobs) (share gap jobs n)
    by true h =
        ap (λ (b : Bool). if b then 0 else length (band_of gap jobs n)) h
        ∙ sym (zeros (length jobs) (share gap jobs n) (λ j below. ap one_if
        (and_left (not (joins gap jobs n)) (is_behind gap jobs n j) (ap not h))))
    by false h =
        let next = next_of gap jobs n in
        let name = (job_of jobs n).name in
        let bounds = next_within gap jobs name (n + 1) (length jobs - (n + 1)) in
        let within : next ≤ length jobs = omega (arith, bounds.1, lt) in
        let room : next - n ≤ length (drop n jobs) =
        rw (length-drop n jobs) (omega (arith, within)) in
        ap (λ (b : Bool). if b then 0 else length (band_of gap jobs n)) h
        ∙ passing (is_of name) (drop n jobs) no_record (next - n) room
        ∙ sum_below-same (next - n) (λ j. one_if (is_of name (get_or (drop n jobs) j no_record)))
        (λ j. share gap jobs n (n + j)) (λ j below. share_within gap jobs n j h below)
        ∙ sym (stretched n next (length jobs) (share gap jobs n) (omega (arith, bounds.0)) within
        (share_before gap jobs n) (share_behind gap jobs n))

-- one place holds each job
share_one : (gap : ℕ) (jobs : List JobRecord) (j : ℕ) → j < length jobs
    → sum_below (length jobs) (λ n. share gap jobs n j) ≡ 1
share_one gap jobs j lt =
    let it = place_of gap jobs j lt in
    let from : it.place ≤ j = it.from in
    single (length jobs) (λ n. share gap jobs n j) it.place (omega (arith, from, lt)) (ap one_if
    it.holds) (λ m other. none m (holds_job gap jobs m j) refl (λ h. other (it.only m h)))
  where
    none : (m : ℕ) (b : Bool) → holds_job gap jobs m j ≡ b → (holds_job gap jobs m j ≡ true → ⊥)
        → share gap jobs m j ≡ 0
    none m true h refuted = absurd (refuted h)
    none m false h refuted = ap one_if h

pub counted : CountOnce
counted gap jobs = (
  λ j lt. (let it = place_of gap jobs j lt in (it.place, it.holds, it.only)),
  sum_below-same (length jobs) (counted_at gap jobs)
      (λ n. sum_below (length jobs) (share gap jobs n)) (share_sum gap jobs)
      ∙ swapped (length jobs) (length jobs) (share gap jobs)
      ∙ sum_below-same (length jobs) (λ j. sum_below (length jobs) (λ n. share gap jobs n j))
      (λ j. 1) (share_one gap jobs)
      ∙ ones (length jobs),
)
