-- Each job stands in one place, and where its box is in the window, that of its place is.
use Rattle.std.proofs.Common.{◌≡◌, ◌∙◌, ℕ, ◌+◌, ◌-◌, ◌<◌, ◌≤◌, inl, inr, sym, ap, subst}
use Rattle.std.proofs.Common.{arith, Bool, true, false, nat_lt, List, [], length}
use Rattle.std.proofs.Common.{get_or, take, drop, Option}
use Rattle.std.specs.Prelude.{if◌then◌else◌}
use Rattle.std.proofs.lemmas.Bool.{and_from, and_parts, cases_Bool, cases_lt, lt-ltb, ltb-false}
use Rattle.std.proofs.lemmas.Bool.{ltb-true}
use Rattle.std.proofs.lemmas.List.{get_or-drop, get_or-take, length-drop, length-take}
use Rattle.task_sheet.proofs.Common.{same_bytes, greatest_of}
use Rattle.task_sheet.proofs.NameLaws.{same_own}
use Rattle.ceiling_kernel.specs.Runs.{no_record}
use Rattle.ceiling_kernel.specs.declared.trace.JobRecord.{JobRecord}
use Rattle.pieces.specs.Bands.{arrival_of, band_of, is_banded, is_of, job_of, joins, next_of}
use Rattle.pieces.specs.Bands.{stretch_of}
use Rattle.frames.specs.declared.rows.TaskRow.{TaskRow}
use Rattle.drawn_jobs.specs.Bands.{band_text, gap_of, place_text, stand_text}
use Rattle.drawn_jobs.specs.Jobs.{job_text, limit_of, seen_job}
use Rattle.frames.specs.Frame.{Frame, sees}
use Rattle.frames.specs.PictureRows.{in_spot, on_spot, record_at, row_at, spot_at, spot_of}
use Rattle.drawn_runs.specs.Stand.{AreByArrival, IsSeenAt, StandsOnce, band_at, count_at, drawn_at}
use Rattle.drawn_runs.specs.Stand.{latest_at, sees_job, sees_place}
use Rattle.drawn_runs.proofs.ListLaws.{kept_most, kept_two}
use Rattle.pieces.proofs.PlaceLaws.{Place, place_of, stands_first}

-- where a job stands among those up to the next band
in_stretch : (jobs : List JobRecord) (n d next : ℕ) → n + d < next → n + d < length jobs
    → (d < length (take (next - n) (drop n jobs)))
    × (get_or (take (next - n) (drop n jobs)) d no_record ≡ job_of jobs (n + d))
in_stretch jobs n d next below lt =
    let early : d < next - n = omega (arith, below) in (
      omega (arith, length-take (next - n) (drop n jobs), length-drop n jobs, below, lt),
      get_or-take (next - n) (drop n jobs) d no_record early ∙ get_or-drop n jobs d no_record,
    )

module _ {gap : ℕ} {jobs : List JobRecord} {j : ℕ} (lt : j < length jobs)
    (p : Place gap jobs j) where
  abbrev n : ℕ
  n = p.place

  abbrev name : List ℕ
  name = (job_of jobs n).name

  abbrev stretch : List JobRecord
  stretch = take (next_of gap jobs n - n) (drop n jobs)

  -- the job is one of them
  inside : (j - n < length stretch) × (get_or stretch (j - n) no_record ≡ job_of jobs j)
  inside =
      let to : n + (j - n) ≡ j = omega (arith, p.from) in
      let at = in_stretch jobs n (j - n) (next_of gap jobs n) (omega (arith, p.from, p.below))
      (omega (arith, p.from, lt)) in
      (at.0, at.1 ∙ ap (λ (k : ℕ). job_of jobs k) to)

  own : is_of name (get_or stretch (j - n) no_record) ≡ true
  own = ap (λ (x : JobRecord). is_of name x) inside.1
      ∙ (ap (λ (x : List ℕ). same_bytes x name) (sym p.same) ∙ same_own name)

  -- and arrives no later than the latest of its band
  latest : arrival_of (job_of jobs j) ≤ greatest_of arrival_of (band_of gap jobs n)
  latest =
      subst (λ (x : JobRecord). arrival_of x ≤ greatest_of arrival_of (band_of gap jobs n)) inside.1
      (kept_most arrival_of (is_of name) stretch (j - n) no_record inside.0 own)

  -- with the first, if it is another, they are two
  two : n < j → 2 ≤ length (band_of gap jobs n)
  two less =
      let z : n + 0 ≡ n = omega arith in
      let at = in_stretch jobs n 0 (next_of gap jobs n) (omega (arith, less, p.below))
      (omega (arith, less, lt)) in
      let first = ap (λ (x : JobRecord). is_of name x) (at.1 ∙ ap (λ (k : ℕ). job_of jobs k) z) ∙
      same_own name in
      kept_two (is_of name) stretch 0 (j - n) no_record (omega (arith, less)) inside.0 first own

  -- where no more than one job stands, it is that one
  alone : nat_lt 1 (length (band_of gap jobs n)) ≡ false → n ≡ j
  alone few = elim (cases_lt n j) [
    | inl less ↦ absurd (omega (arith, two less, ltb-false 1 (length (band_of gap jobs n)) few))
    | inr ge ↦ omega (arith, p.from, ge)
  ]

  -- it stands with others where it is in a band
  banded : is_banded gap jobs j ≡ nat_lt 1 (length (band_of gap jobs n))
  banded = elim (cases_lt n j) [
    | inl less ↦
        let joined : joins gap jobs j ≡ true = elim (cases_Bool (joins gap jobs j)) [
          | inl so ↦ so
          | inr apart ↦ absurd (omega (arith, p.only j (stands_first gap jobs j apart), less))
        ] in
        rw (lt-ltb j (length jobs) lt, joined)
        (sym (lt-ltb 1 (length (band_of gap jobs n)) (two less)))
    | inr ge ↦
        let at : n ≡ j = omega (arith, p.from, ge) in
        rw (lt-ltb j (length jobs) lt, ap (λ (k : ℕ). joins gap jobs k) (sym at) ∙ p.apart)
        (ap (λ (k : ℕ). nat_lt 1 (length (band_of gap jobs k))) (sym at))
  ]

-- ---- the window
-- it has more of what reaches further
seen_wider : (f : Frame) (limit release first latest : ℕ) → first ≤ release → release ≤ latest
    → sees f release (release + limit) ≡ true → sees f first (latest + limit) ≡ true
seen_wider f limit release first latest before behind seen =
    let parts = and_parts (nat_lt release f.to) (nat_lt f.from (release + limit)) seen in
    and_from (nat_lt first f.to) (nat_lt f.from (latest + limit))
    (lt-ltb first f.to (omega (arith, ltb-true release f.to parts.0, before)))
    (lt-ltb f.from (latest + limit) (omega (
      arith,
      ltb-true f.from (release + limit) parts.1,
      behind,
    )))

module _ (f : Frame) (jobs : List JobRecord) (n k : ℕ) (row : TaskRow) where
  abbrev first : JobRecord
  first = record_at jobs n

  abbrev near : List JobRecord
  near = stretch_of (gap_of f) jobs n

  abbrev band : List ℕ
  band = band_at f jobs n k row

  -- what stands at a place whose box is in the window is drawn
  stand_drawn : sees_place f row jobs n ≡ true
      → (nat_lt 1 (count_at f jobs n) ≡ false → sees_job f row first ≡ true)
      → stand_text f first near k row ≡ drawn_at f jobs n k row
  stand_drawn seen lone = elim (cases_Bool (nat_lt 1 (count_at f jobs n))) [
    | inl many ↦
        ap (λ (b : Bool). if b then band_text f first near k row else job_text f first k row) many
        ∙ ap (λ (b : Bool). if b then band else []) seen
        ∙ sym (ap (λ (b : Bool). if b then band else seen_job f first k row) many)
    | inr few ↦
        ap (λ (b : Bool). if b then band_text f first near k row else job_text f first k row) few
        ∙ ap (λ (b : Bool). if b then seen_job f first k row else []) (lone few)
        ∙ sym (ap (λ (b : Bool). if b then band else seen_job f first k row) few)
  ]

  place_drawn : joins (gap_of f) jobs n ≡ false
      → place_text f jobs n k row ≡ stand_text f first near k row
  place_drawn apart = ap (λ (b : Bool). if b then [] else stand_text f first near k row) apart

pub stands_once : (f : Frame) (rows : List TaskRow) (shown : List ℕ) (jobs : List JobRecord)
    (j rank k : ℕ) → AreByArrival jobs → IsSeenAt f rows shown jobs j rank k
    → StandsOnce f rows shown jobs j rank k
stands_once f rows shown jobs j rank k sorted at =
    let p : Place (gap_of f) jobs j = place_of (gap_of f) jobs j at.is_job in
    let row : TaskRow = row_at rows rank in
    let seen = seen_wider f (limit_of row) (record_at jobs j).release
    (record_at jobs p.place).release (latest_at f jobs p.place) (sorted p.place j p.from at.is_job)
    (latest at.is_job p) at.seen in
    let lone : nat_lt 1 (count_at f jobs p.place) ≡ false
    → sees_job f row (record_at jobs p.place) ≡ true =
    λ few. subst (λ (i : ℕ). sees_job f row (record_at jobs i) ≡ true)
    (sym (alone at.is_job p few)) at.seen in
    let placed = ap (λ (name : List ℕ). on_spot rows shown name
    (λ s. place_text f jobs p.place s.k)) p.same ∙ ap (λ (o : Option ℕ). in_spot rows
    (λ s. place_text f jobs p.place s.k) (spot_of shown o)) at.row ∙ ap
    (λ (o : Option ℕ). in_spot rows (λ s. place_text f jobs p.place s.k) (spot_at rank o))
    at.shown_at in
    record {
      place = p.place;
      holds = p.holds;
      only = p.only;
      banded = banded at.is_job p;
      seen = seen;
      drawn = placed ∙ place_drawn f jobs p.place k row p.apart
          ∙ stand_drawn f jobs p.place k row seen lone;
    }
