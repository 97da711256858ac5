-- The jobs of a run, as its lines say them, of which of them its slices are, and that what is seen
-- of them keeps what is
-- promised.
use Rattle.std.proofs.Common.{ℕ, zero, suc, ◌+◌, ◌-◌, ◌<◌, ◌≤◌, ◌≡◌, inl, inr, refl, sym, ap, ◌∙◌}
use Rattle.std.proofs.Common.{subst, arith, Bool, true, false, ◌&&◌, List, [], ◌∷◌, length, None}
use Rattle.std.proofs.Common.{Some, slice_index_or, unwrap_or, nat_le, nat_lt, ap₂, All, ◌==◌, cond}
use Rattle.std.proofs.Common.{take, Option, IfSome, is_none, is_some}
use Rattle.std.proofs.lemmas.Bool.{cases_Bool, cases_lt, and_from, and_left, and_right, leb-false}
use Rattle.std.proofs.lemmas.Bool.{le-leb, lt-leb, lt-ltb, cases_eq, and_parts, cond-false, le-ltb}
use Rattle.std.proofs.lemmas.Bool.{leb-true, ltb-true, ne_eqb}
use Rattle.std.proofs.lemmas.List.Quantifiers.{position-Some}
use Rattle.std.proofs.lemmas.Slice.Eq.{bytes_eq-Decides}
use Rattle.task_sheet.proofs.Common.{Task, no_task, same_bytes, task_at, among, blocking_of}
use Rattle.task_sheet.proofs.Common.{greatest_of}
use Rattle.task_sheet.proofs.NameLaws.{same_own}
use Rattle.assignment.specs.Places.{PlaceData}
use Rattle.assignment.specs.Placings.{tasks_of_places}
use Rattle.ceiling_kernel.proofs.Common.{Job, Node, executed_before, job_at, node_in, picked}
use Rattle.ceiling_kernel.proofs.Common.{level_in_order, level_of_job, finish_before, AreLegalJobs}
use Rattle.ceiling_kernel.proofs.Common.{IsNode, is_past, jobs_of, no_release, ready_of, release_at}
use Rattle.ceiling_kernel.proofs.Common.{task_named, task_number, record_of, records_from}
use Rattle.ceiling_kernel.proofs.Common.{no_record, AreLongestRuns, above_of, after_of}
use Rattle.ceiling_kernel.specs.Trace.{slices_of}
use Rattle.ceiling_kernel.specs.declared.trace.JobRecord.{JobRecord}
use Rattle.ceiling_kernel.specs.declared.trace.Release.{Release}
use Rattle.ceiling_kernel.specs.declared.trace.Slice.{Slice}
use Rattle.ceiling_kernel.proofs.AcceptLaws.{IsAccepted, accepted, known_from, none_passes}
use Rattle.ceiling_kernel.proofs.EndLaws.{legal_from, records_at, some_executes}
use Rattle.ceiling_kernel.proofs.FinishLaws.{finish_is, finish_later, finish_some, grows_by}
use Rattle.ceiling_kernel.proofs.FinishLaws.{unfinished_is}
use Rattle.ceiling_kernel.proofs.MachineLaws.{pending_parts, picked_is, idle_of, other_of, own_of}
use Rattle.ceiling_kernel.proofs.MachineLaws.{start_of, works_of}
use Rattle.ceiling_kernel.proofs.ReleaseLaws.{job_is, jobs_length}
use Rattle.trace_text.specs.declared.rows.TraceJob.{TraceJob}
use Rattle.observed.specs.Pieces.{is_of, job_of, level_of, homeless_line, is_homeless, pieces_of}
use Rattle.observed.specs.Promises.{no_promise, promises_of}
use Rattle.trace_text.specs.declared.reading.TraceLines.{TraceLines}
use Rattle.kept_promises.specs.OfRuns.{AreOfRun}
use Rattle.kept_promises.specs.PrintedRuns.{job_row, jobs_from, slice_row, slices_from}
use Rattle.kept_promises.proofs.LevelLaws.{IsPlaced, placed_level, position_is, stands_at}
use Rattle.kept_promises.proofs.TickLaws.{IsRunSlice, hit, hit-le, hit_none, hit_outside, hits}
use Rattle.kept_promises.proofs.TickLaws.{lies, lies_before, lies_after, piece, time_by, time_from}
use Rattle.kept_promises.proofs.TickLaws.{total_run, total_same, total_start}
use Rattle.std.proofs.lemmas.List.{get_or-take, length-take}
use Rattle.std.proofs.lemmas.List.Elements.{All-from_recursion}
use Rattle.std.proofs.lemmas.Option.{none-some, same_Some}
use Rattle.std.specs.List.{find}
use Rattle.std.specs.Option.{option_map}
use Rattle.ceiling_kernel.proofs.NodeLaws.{after_is_above}
use Rattle.ceiling_kernel.proofs.SliceLaws.{longest_runs}
use Rattle.ceiling_kernel.proofs.SumLaws.{total}
use Rattle.run_lines.specs.Responses.{DoneWithin}
use Rattle.run_lines.proofs.ResponseLaws.{all_in_time}
use Rattle.trace_text.specs.declared.fault.TraceFault.TheVariants as fault
use Rattle.trace_text.specs.declared.rows.TraceSlice.{TraceSlice}
use Rattle.observed.specs.End.{end_of, last_of}
use Rattle.observed.specs.Observed.{observed_fault, observed_in, seen_jobs}
use Rattle.observed.specs.Seen.{gap_since, last_job, ready_by, seen_job, until_of}
use Rattle.observed.specs.Ranks.{is_stray, is_wrong, stray_in}
use Rattle.observed.specs.Shares.{is_at, is_below}
use Rattle.observed.specs.declared.pieces.Piece.{Piece}
use Rattle.observed.specs.declared.promises.Promise.{Promise}
use Rattle.observed.specs.SeenJob.{SeenData}
use Rattle.kept_promises.specs.KeptPromises.{Keeps, KeepsToDemand}
use Rattle.kept_promises.proofs.BlockLaws.{low, low_most}
use Rattle.kept_promises.proofs.BreakLaws.{keeps-to_demand}
use Rattle.kept_promises.proofs.ListLaws.{closest-short, each_seen, greatest_most, last_found}

-- ---- lists
rows_at : (node : Node) (jobs : List Job) (until line k : ℕ) (rs : List Release) (j : ℕ)
    (d : TraceJob) → j < length rs
    → slice_index_or (jobs_from line (records_from node jobs until k rs)) j d
    ≡ job_row (line + j) (record_of node jobs until (k + j) (release_at rs j))
rows_at node jobs until line k [] j d lt = absurd (omega arith)
rows_at node jobs until line k (r ∷ rs) zero d lt =
    let a : line ≡ line + 0 = omega arith in
    let b : k ≡ k + 0 = omega arith in
    ap₂ (λ m n. job_row m (record_of node jobs until n r)) a b
rows_at node jobs until line k (r ∷ rs) (suc j) d lt =
    let a : line + 1 + j ≡ line + suc j = omega arith in
    let b : k + 1 + j ≡ k + suc j = omega arith in
    rows_at node jobs until (line + 1) (k + 1) rs j d (omega arith)
    ∙ ap₂ (λ m n. job_row m (record_of node jobs until n (release_at rs j))) a b

rows_length : (node : Node) (jobs : List Job) (until line k : ℕ) (rs : List Release)
    → length (jobs_from line (records_from node jobs until k rs)) ≡ length rs
rows_length node jobs until line k [] = refl
rows_length node jobs until line k (r ∷ rs) =
    ap suc (rows_length node jobs until (line + 1) (k + 1) rs)

-- the task that a name finds has that name
pub named : (U : List Task) (name : List ℕ) (k : ℕ) → k < length U
    → unwrap_or (task_named U name) (length U) ≡ k → same_bytes (task_at U k).name name ≡ true
named U name k lt is =
    elim (task_named U name) as (λ o. task_named U name ≡ o → unwrap_or o (length U) ≡ k
    → same_bytes (task_at U k).name name ≡ true) [
      | None ↦ λ at none. absurd (omega (arith, none, lt))
      | Some i ↦ λ at same.
          let found = position-Some (λ (t : Task). same_bytes t.name name) U i no_task at in
          subst (λ x. same_bytes (task_at U x).name name ≡ true) same found.1
    ] refl is

-- the stops of the slices of a run lie in it
stops_within : (run : ℕ → Option ℕ) (until : ℕ) (records : List JobRecord) (line from : ℕ)
    (ss : List Slice) → AreLongestRuns run from until ss
    → greatest_of (λ (s : TraceSlice). s.stop) (slices_from records line ss) ≤ until
stops_within run until records line from [] h = omega arith
stops_within run until records line from (s ∷ ss) h =
    omega (arith, h.2, stops_within run until records (line + 1) s.stop ss h.6)

-- where nobody counts, no tick does
none_counts : (lo hi t : ℕ) (o : Option ℕ) → hit (λ _. false) lo hi t o ≡ 0
none_counts lo hi t None = refl
none_counts lo hi t (Some j) = refl

-- where everybody counts, a tick does that lies between the times, if it executes a job
all_count : (lo hi t : ℕ) (o : Option ℕ) → (lies lo hi t ≡ true → (p : ℕ) × (o ≡ Some p))
    → hit (λ _. true) lo hi t o ≡ cond (lies lo hi t) 1 0
all_count lo hi t (Some j) works = refl
all_count lo hi t None works =
    elim (cases_Bool (lies lo hi t)) [
      | inl so ↦ (let p = works so in absurd (none-some p.0 p.1))
      | inr not_so ↦ rw not_so refl
    ]

-- levels from 0 and from 1
next_levels : (a b : ℕ) → nat_lt a b ≡ nat_lt (suc a) (suc b)
next_levels a b = elim (cases_lt a b) [
  | inl lt ↦ lt-ltb a b lt ∙ sym (lt-ltb (suc a) (suc b) (omega arith))
  | inr ge ↦ le-ltb a b ge ∙ sym (le-ltb (suc a) (suc b) (omega arith))
]

module _ {U : List Task} {places : List PlaceData} {lines : TraceLines}
    (run : AreOfRun U places lines) (numbers : List ℕ) where
  abbrev pub rs : List Release
  rs = run.releases

  abbrev pub until : ℕ
  until = run.until

  abbrev pub node : Node
  node = node_in U (tasks_of_places places)

  pub is_node : IsNode node
  is_node = record { tasks = run.set; order = run.order }

  abbrev pub jobs : List Job
  jobs = jobs_of U rs

  -- for how long a job has executed before a tick, for how long it executes in all, and when it is
  -- finished
  abbrev pub executed : (t j : ℕ) → ℕ
  executed t j = executed_before node jobs t j

  abbrev pub executes : ℕ → ℕ
  executes j = (job_at jobs j).executes

  abbrev pub finish_of : ℕ → Option ℕ
  finish_of j = finish_before node jobs until j

  pub legal : AreLegalJobs node jobs
  legal = legal_from node rs until is_node run.runs.0

  pub is_accepted : IsAccepted U rs until
  is_accepted = accepted U rs until run.runs.0

  pub jobs_are : length jobs ≡ length rs
  jobs_are = jobs_length U rs

  abbrev pub records : List JobRecord
  records = records_from node jobs until 0 rs

  -- the line of the first job
  abbrev jobs_line : ℕ
  jobs_line = run.first + length run.trace.slices.items

  -- the jobs that the lines say
  abbrev pub all : List TraceJob
  all = jobs_from jobs_line records

  abbrev pub shown : ℕ → TraceJob
  shown j = job_row (jobs_line + j) (record_of node jobs until j (release_at rs j))

  pub all_at : (j : ℕ) (d : TraceJob) → j < length rs → slice_index_or all j d ≡ shown j
  all_at j d lt =
      let z : 0 + j ≡ j = omega arith in
      rows_at node jobs until jobs_line 0 rs j d lt
      ∙ ap (λ n. job_row (jobs_line + j) (record_of node jobs until n (release_at rs j))) z

  pub all_length : length all ≡ length rs
  all_length = rows_length node jobs until jobs_line 0 rs

  -- ---- the task of a job
  abbrev pub task_of : ℕ → ℕ
  task_of j = task_number U (release_at rs j)

  pub task_in : (j : ℕ) → j < length rs → task_of j < length U
  task_in j lt = known_from U rs is_accepted.known j lt

  pub task_is : (j : ℕ) → j < length rs → (job_at jobs j).task ≡ task_of j
  task_is j lt = ap (λ (x : Job). x.task) (job_is U rs j lt)

  pub arrival_is : (j : ℕ) → j < length rs → (job_at jobs j).arrival ≡ (release_at rs j).time
  arrival_is j lt = ap (λ (x : Job). x.arrival) (job_is U rs j lt)

  pub name_is : (j : ℕ) → j < length rs → (task_at U (task_of j)).name ≡ (release_at rs j).name
  name_is j lt = (bytes_eq-Decides (task_at U (task_of j)).name (release_at rs j).name).0
      (named U (release_at rs j).name (task_of j) (task_in j lt) refl)

  pub same_task : (i j : ℕ) → same_bytes (release_at rs i).name (release_at rs j).name ≡ true
      → task_of i ≡ task_of j
  same_task i j same = ap (λ (name : List ℕ). unwrap_or (task_named U name) (length U))
      ((bytes_eq-Decides (release_at rs i).name (release_at rs j).name).0 same)

  -- its level
  pub placed : (i : ℕ) → i < length U → (level : ℕ) × IsPlaced U numbers 0 places i level
  placed = stands_at U run.set numbers places run.order

  pub level_named : (j : ℕ) → (lt : j < length rs) → level_of (promises_of U numbers places)
      (release_at rs j).name ≡ Some (placed (task_of j) (task_in j lt)).0
  level_named j lt =
      let at = placed (task_of j) (task_in j lt) in
      ap (level_of (promises_of U numbers places)) (sym (name_is j lt))
      ∙ placed_level U numbers places (task_of j) at.0 at.1

  -- ---- when it executes
  pub ready_in : (j : ℕ) → j < length rs → (job_at jobs j).ready < until
  ready_in j lt =
      let f = none_passes (is_past until) rs j no_release lt is_accepted.before in
      omega (
        arith,
        leb-false until (ready_of (release_at rs j)) f,
        ap (λ (x : Job). x.ready) (job_is U rs j lt),
      )

  pub some : (j : ℕ) → j < length rs → 0 < executes j
  some j lt = some_executes node rs until j run.runs.0 lt

  pub later : (j t u : ℕ) → t ≤ u → executed t j ≤ executed u j
  later j t u le =
      (let at_u : t + (u - t) ≡ u = omega arith in rw at_u at (grows_by node jobs j t (u - t)))

  -- before its finish, or within the run, it lacks some
  pub lacks : (j t : ℕ) → j < length rs → t < unwrap_or (finish_of j)
      (suc until) → executed t j < executes j
  lacks j t lt before =
      elim (finish_of j) as (λ o. finish_of j ≡ o → t
      < unwrap_or o (suc until) → executed t j < executes j) [
        | None ↦ λ is early. (let open_ = unfinished_is node jobs j until (some j lt) is in
            omega (arith, open_, later j t until (omega (arith, early))))
        | Some f ↦ λ is early.
            let ends = finish_is node jobs j until f (some j lt) is in
            omega (arith, ends.1.before, later j t (f - 1) (omega (arith, early)))
      ] refl before

  -- a tick of a job
  pub tick_is : (t p : ℕ) → picked node jobs t ≡ Some p → (p < length rs)
      × ((job_at jobs p).ready ≤ t) × (executed t p < executes p)
  tick_is t p e =
      let is = picked_is node jobs t p e in
      let parts = pending_parts node jobs t p is.is_pending in
      (omega (arith, is.below, jobs_are), parts.0, parts.1)

  -- ---- of which job a slice is
  -- a finish by a time that the lines say
  finished_by : (i t : ℕ) → i < length rs → t ≤ until → executes i ≤ executed t i → (f : ℕ)
      × (finish_of i ≡ Some f) × (f ≤ t)
  finished_by i t lt le done =
      let found = finish_some node jobs i t (some i lt) done in
      let to : t + (until - t) ≡ until = omega arith in (
        found.0,
        subst (λ x. finish_before node jobs x i ≡ Some found.0) to
            (finish_later node jobs i t (until - t) found.0 found.1),
        (finish_is node jobs i t found.0 (some i lt) found.1).0,
      )

  -- a job before another of its task is finished when that one is ready
  finished_before : (i p : ℕ) → i < p → p < length rs → task_of i ≡ task_of p → (f : ℕ)
      × (finish_of i ≡ Some f) × (f ≤ (job_at jobs p).ready)
  finished_before i p before lt same =
      let is : i < length rs = omega arith in
      let ready : (job_at jobs p).ready < until = ready_in p lt in
      elim (cases_lt (executed (job_at jobs p).ready i) (executes i)) [
        | inl lacking ↦ absurd (run.runs.1 p (omega (arith, lt, jobs_are))
            (i, before, task_is i is ∙ same ∙ sym (task_is p lt), lacking))
        | inr done ↦ finished_by i (job_at jobs p).ready is (omega (arith, ready)) done
      ]

  module _ (number : ℕ) (s : Slice) (slice : IsRunSlice (picked node jobs) until s) where
    pub first : (s.job < length rs) × ((job_at jobs s.job).ready ≤ s.start)
        × (executed s.start s.job < executes s.job)
    first = tick_is s.start s.job (slice.own s.start (omega arith) slice.lasts)

    pub slice_name : (slice_row records number s).name ≡ (release_at rs s.job).name
    slice_name = ap (λ (x : JobRecord). x.name) (records_at node jobs until 0 rs s.job first.0)

    -- it ends by the finish of its job
    ends : (f : ℕ) → finish_of s.job ≡ Some f → s.stop ≤ f
    ends f is =
        elim (cases_lt f s.stop) [
          | inr in_time ↦ in_time
          | inl past ↦
              let last = tick_is (s.stop - 1) s.job
              (slice.own (s.stop - 1) (omega (arith, slice.lasts)) (omega arith)) in
              let finish = finish_is node jobs s.job until f (some s.job first.0) is in
              absurd (omega (
                arith,
                last.2,
                finish.1.after,
                later s.job f (s.stop - 1) (omega
                    arith),
              ))
        ]

    stops : nat_le s.stop (unwrap_or (finish_of s.job) s.stop) ≡ true
    stops =
        elim (finish_of s.job) as (λ o. finish_of s.job ≡ o
        → nat_le s.stop (unwrap_or o s.stop) ≡ true) [
          | None ↦ λ is. le-leb s.stop s.stop (omega arith)
          | Some f ↦ λ is. le-leb s.stop f (ends f is)
        ] refl

    -- what the test asks of a job
    abbrev has_name : ℕ → Bool
    has_name k = same_bytes (release_at rs k).name (slice_row records number s).name

    abbrev begun : ℕ → Bool
    begun k = nat_le (release_at rs k).time s.start

    abbrev not_over : ℕ → Bool
    not_over k = nat_le s.stop (unwrap_or (finish_of k) s.stop)

    own : is_of (slice_row records number s) (shown s.job) ≡ true
    own =
        let early = legal.not_early s.job (omega (arith, first.0, jobs_are)) in
        let arrives : (release_at rs s.job).time ≤ s.start =
        omega (arith, early, arrival_is s.job first.0, first.1) in
        and_from (has_name s.job) (begun s.job && not_over s.job)
        (ap (same_bytes (release_at rs s.job).name) slice_name
        ∙ same_own (release_at rs s.job).name)
        (and_from (begun s.job) (not_over s.job)
        (le-leb (release_at rs s.job).time s.start arrives) stops)

    others : (i : ℕ) → i < s.job → is_of (slice_row records number s) (shown i) ≡ false
    others i before = elim (cases_Bool (has_name i)) [
      | inr differ ↦ and_left (has_name i) (begun i && not_over i) differ
      | inl equal ↦
          let same : task_of i ≡ task_of s.job = same_task i s.job
          (sym (ap (same_bytes (release_at rs i).name) slice_name) ∙ equal) in
          let finish = finished_before i s.job before first.0 same in
          let over : not_over i ≡ false = ap (λ o. nat_le s.stop (unwrap_or o s.stop)) finish.1
          ∙ lt-leb s.stop finish.0 (omega (arith, finish.2, first.1, slice.lasts)) in
          and_right (has_name i) (begun i && not_over i) (and_right (begun i) (not_over i) over)
    ]

    -- a slice of a run lies in its own job
    pub own_job : job_of all (slice_row records number s) ≡ Some s.job
    own_job =
        position_is (λ (job : TraceJob). is_of (slice_row records number s) job) all s.job (shown 0)
        (omega (arith, first.0, all_length))
        (λ k before. ap (is_of (slice_row records number s))
        (all_at k (shown 0) (omega (arith, before, first.0))) ∙ others k before)
        (ap (is_of (slice_row records number s)) (all_at s.job (shown 0) first.0) ∙ own)

    -- and its task has a level
    pub own_level : level_of (promises_of U numbers places) (slice_row records number s).name
        ≡ Some (placed (task_of s.job) (task_in s.job first.0)).0
    own_level = ap (level_of (promises_of U numbers places)) slice_name ∙ level_named s.job first.0

  -- ==== what is seen of them
  abbrev pub promises : List Promise
  promises = promises_of U numbers places

  abbrev slices : List Slice
  slices = slices_of node jobs until

  abbrev turns : ℕ → Option ℕ
  turns = picked node jobs

  abbrev rows : List TraceSlice
  rows = slices_from records run.first slices

  abbrev pieces : List Piece
  pieces = pieces_of promises all rows

  abbrev end : ℕ
  end = end_of rows all

  are_longest : AreLongestRuns turns 0 until slices
  are_longest = longest_runs node jobs until

  -- what the lines say
  pub rows_are : lines.slices.items ≡ rows
  rows_are = run.say.slices
      ∙ ap₂ (λ (js : List JobRecord) (ss : List Slice). slices_from js run.first ss) run.runs.2.jobs
      run.runs.2.slices

  pub jobs_said : lines.jobs.items ≡ all
  jobs_said = run.say.jobs
      ∙ ap (jobs_from jobs_line) run.runs.2.jobs

  -- the level of a job, what is promised of it, and what is seen of it
  abbrev level_at : (j : ℕ) → j < length rs → ℕ
  level_at j lt = (placed (task_of j) (task_in j lt)).0

  abbrev promise_at : (j : ℕ) → j < length rs → Promise
  promise_at j lt = slice_index_or promises (level_at j lt) no_promise

  abbrev pub sight : (j : ℕ) → j < length rs → SeenData
  sight j lt =
      seen_job U promises (promise_at j lt) (level_at j lt) end pieces (take j all) (shown j)

  -- what holds of what is seen of each job, holds of all that is seen
  pub all_seen : (P : SeenData → Type 0) → ((j : ℕ) (lt : j < length rs) → P (sight j lt))
      → All P (observed_in U promises lines)
  all_seen P each =
      let here : (j level : ℕ) → j < length all
      → level_of promises (slice_index_or all j (shown 0)).name ≡ Some level
      → P (seen_job U promises (slice_index_or promises level no_promise) level end pieces (take j all)
      (slice_index_or all j (shown 0))) =
      λ j level within at.
      let lt : j < length rs = omega (arith, within, all_length) in
      let is : slice_index_or all j (shown 0) ≡ shown j =
      all_at j (shown 0) lt in
      let found : level_of promises (shown j).name ≡ Some level =
      ap (λ (x : TraceJob). level_of promises x.name) (sym is) ∙ at in
      let same : level_at j lt ≡ level =
      same_Some (level_at j lt) level (sym (level_named j lt) ∙ found) in
      subst (λ (x : TraceJob). P (seen_job U promises (slice_index_or promises level no_promise) level end
      pieces (take j all) x)) (sym is)
      (subst (λ l. P (seen_job U promises (slice_index_or promises l no_promise) l end pieces
      (take j all) (shown j))) same (each j lt)) in
      let by_rows : All P (seen_jobs U promises end pieces all) =
      All-from_recursion P (seen_jobs U promises end pieces all)
      (each_seen P U promises end pieces all (shown 0) here 0 all
      (λ k within. (let z : k ≡ 0 + k = omega arith in
      (omega (arith, within), ap (λ n. slice_index_or all n (shown 0)) z)))) in
      subst (λ (ss : List TraceSlice). All P (seen_jobs U promises (end_of ss lines.jobs.items)
      (pieces_of promises lines.jobs.items ss) lines.jobs.items)) (sym rows_are)
      (subst (λ (js : List TraceJob). All P (seen_jobs U promises (end_of rows js)
      (pieces_of promises js rows) js)) (sym jobs_said) by_rows)

  -- ---- each slice of a task lies in a job of it
  none_homeless : (number from : ℕ) (ss : List Slice) → AreLongestRuns turns from until ss
      → find is_homeless (pieces_of promises all (slices_from records number ss)) ≡ None
  none_homeless number from [] h = refl
  none_homeless number from (s ∷ ss) h =
      let slice : IsRunSlice turns until s =
      record { lasts = h.1; in_run = h.2; own = h.4 } in
      let part : Piece = piece turns until promises all records number s in
      let home : is_homeless part ≡ false = and_right (is_some part.level) (is_none part.job)
      (ap is_none (own_job number s slice)) in
      cond-false (is_homeless part) (Some part) (find is_homeless
      (pieces_of promises all (slices_from records (number + 1) ss))) home
      ∙ none_homeless (number + 1) s.stop ss h.6

  pub housed : observed_fault promises lines ≡ None
  housed =
      ap₂ (λ (js : List TraceJob) (ss : List TraceSlice). option_map (λ l. fault.NoJob l)
      (homeless_line (pieces_of promises js ss))) jobs_said rows_are
      ∙ ap (λ (o : Option Piece). option_map (λ l. fault.NoJob l)
      (option_map (λ (p : Piece). p.line) o)) (none_homeless run.first 0 slices are_longest)

  -- ---- the end
  stop_in_run : (j : ℕ) → j < length rs → until_of end (shown j) ≤ until
  stop_in_run j lt =
      elim (finish_of j) as (λ o. finish_of j ≡ o → unwrap_or o end ≤ until) [
        | Some f ↦ λ is. (finish_is node jobs j until f (some j lt) is).0
        | None ↦ λ _. end_in_run
      ] refl
    where
      last_in_run : (j : ℕ) → j < length rs → last_of (shown j) ≤ until
      last_in_run j lt =
          elim (finish_of j) as (λ o. finish_of j ≡ o
          → unwrap_or o (release_at rs j).time ≤ until) [
            | Some f ↦ λ is. (finish_is node jobs j until f (some j lt) is).0
            | None ↦ λ _. (let early = legal.not_early j (omega (arith, lt, jobs_are)) in
                omega (arith, early, arrival_is j lt, ready_in j lt))
          ] refl

      end_in_run : end ≤ until
      end_in_run =
          let stops : greatest_of (λ (s : TraceSlice). s.stop) rows ≤ until =
          stops_within turns until records run.first 0 slices are_longest in
          let lasts : greatest_of last_of all ≤ until =
          greatest_most last_of until all (shown 0) (λ k within.
          let inside : k < length rs = omega (arith, within, all_length) in
          subst (λ (x : TraceJob). last_of x ≤ until) (sym (all_at k (shown 0) inside))
          (last_in_run k inside)) in
          omega (arith, stops, lasts)

  -- until then it lacks some
  waits : (j t : ℕ) → j < length rs → t < until_of end (shown j)
      → executed t j < executes j
  waits j t lt before =
      lacks j t lt (elim (finish_of j) as (λ o. unwrap_or
      o end ≤ until → t < unwrap_or o end → t < unwrap_or o (suc until)) [
        | Some f ↦ λ in_run early. early
        | None ↦ λ in_run early. omega (arith, in_run, early)
      ] (stop_in_run j lt) before)

  -- its level, counted from 1
  level_is : (j : ℕ) (lt : j < length rs)
      → level_in_order node (task_of j) ≡ suc (level_at j lt)
  level_is j lt = (placed (task_of j) (task_in j lt)).1.level_is 1 ∙ omega arith

  -- ---- at which priorities a job runs, a run doesn't say
  none_stray : (promise : Promise) (place lo hi number : ℕ) (ss : List Slice)
      → stray_in U promises promise place lo hi
      (pieces_of promises all (slices_from records number ss)) ≡ None
  none_stray promise place lo hi number [] = refl
  none_stray promise place lo hi number (s ∷ ss) =
      let part : Piece = piece turns until promises all records number s in
      let own : is_stray U promises promise place lo hi part ≡ false =
      and_right _ (is_wrong U promises promise part.priority) refl in
      cond-false (is_stray U promises promise place lo hi part) part.priority (stray_in U promises
      promise place lo hi (pieces_of promises all (slices_from records (number + 1) ss))) own
      ∙ none_stray promise place lo hi (number + 1) ss

  -- ---- what is promised
  module _ (j : ℕ) (lt : j < length rs) where
    abbrev i : ℕ
    i = task_of j

    abbrev stop : ℕ
    stop = until_of end (shown j)

    at : IsPlaced U numbers 0 places i (level_at j lt)
    at = (placed i (task_in j lt)).1

    cost_is : (promise_at j lt).cost ≡ (task_at U i).cost
    cost_is = ap (λ (q : Promise). q.cost) at.promise ∙ ap (λ k. (task_at U k).cost) at.task

    period_is : (promise_at j lt).period ≡ (task_at U i).period
    period_is = ap (λ (q : Promise). q.period) at.promise ∙ ap (λ k. (task_at U k).period) at.task

    jitter_is : (promise_at j lt).jitter ≡ (task_at U i).jitter
    jitter_is = ap (λ (q : Promise). q.jitter) at.promise ∙ ap (λ k. (task_at U k).jitter) at.task

    bound_is : (promise_at j lt).bound ≡ at.place.response
    bound_is = ap (λ (q : Promise). q.bound) at.promise

    blocking_is : (promise_at j lt).blocking ≡ blocking_of U i (above_of node i)
    blocking_is =
        let over : among (after_of (tasks_of_places places) i) ≡ above_of node i =
        λ x h. after_is_above node is_node i h (task_in j lt) x in
        ap (λ (q : Promise). q.blocking) at.promise
        ∙ ap (λ k. blocking_of U k (among (tasks_of_places at.above))) at.task
        ∙ ap (λ (above : List ℕ). blocking_of U i (among above)) (sym at.after)
        ∙ ap (blocking_of U i) over

    is_job : j < length jobs
    is_job = omega (arith, lt, jobs_are)

    -- it is ready by then
    ready_then : (job_at jobs j).ready
        ≤ (release_at rs j).time + (promise_at j lt).jitter
    ready_then =
        let late = legal.not_late j is_job in
        let jitter : (task_at U (job_at jobs j).task).jitter ≡ (promise_at j lt).jitter =
        ap (λ k. (task_at U k).jitter) (task_is j lt) ∙ sym jitter_is in
        omega (arith, late, jitter, arrival_is j lt)

    -- those who execute
    time_is : (counted : Piece → Bool) (lo hi : ℕ) (c : ℕ → Bool)
        → ((number : ℕ) (s : Slice) → IsRunSlice turns until s
        → counted (piece turns until promises all records number s) ≡ c s.job)
        → time_by counted lo hi pieces ≡ total (hits turns c lo hi) until
    unfolding total
    time_is counted lo hi c same = omega (
      arith,
      time_from turns until promises all records counted lo hi c same run.first 0 slices
          (omega arith) are_longest,
    )

    -- ---- its cost
    own_hits : (lo hi t : ℕ)
        → total (hits turns (λ k. k == j) lo hi) t ≤ executed t j
    unfolding total
    own_hits lo hi zero = omega (arith, start_of node jobs j)
    own_hits lo hi (suc t) =
        let before = own_hits lo hi t in
        elim (turns t) as (λ o. turns t ≡ o → total (hits turns (λ k. k == j) lo hi) (suc t)
        ≤ executed (suc t) j) [
          | None ↦ λ e.
              let none : hits turns (λ k. k == j) lo hi t ≡ 0 = ap (hit (λ k. k == j) lo hi t) e in
              omega (arith, before, none, idle_of node jobs t j e)
          | Some p ↦ λ e. elim (cases_eq j p) [
            | inl mine ↦
                let own : turns t ≡ Some j = e ∙ ap Some (sym mine) in
                omega (
                  arith,
                  before,
                  own_of node jobs t j own,
                  hit-le (λ k. k == j) lo hi t (turns t),
                )
            | inr ne ↦
                let none = hit_none (λ k. k == j) lo hi t p (turns t) e
                (ne_eqb p j (λ same. ne (sym same))) in
                omega (arith, before, none, other_of node jobs t p j e ne)
          ]
        ] refl

    executed_most : (t : ℕ)
        → executed t j ≤ executes j
    executed_most zero = omega (arith, start_of node jobs j)
    executed_most (suc t) =
        elim (turns t) as (λ o. turns t ≡ o
        → executed (suc t) j ≤ executes j) [
          | None ↦ λ e. omega (arith, executed_most t, idle_of node jobs t j e)
          | Some p ↦ λ e. elim (cases_eq j p) [
            | inl mine ↦
                let own : turns t ≡ Some j = e ∙ ap Some (sym mine) in
                omega (arith, own_of node jobs t j own, (tick_is t j own).2)
            | inr ne ↦ omega (arith, executed_most t, other_of node jobs t p j e ne)
          ]
        ] refl

    before_it : length (take j all) ≡ j
    before_it = omega (arith, length-take j all, all_length, lt)

    cost_kept : (sight j lt).executed ≤ (sight j lt).promise.cost
    cost_kept =
        let time : (sight j lt).executed
        ≡ total (hits turns (λ k. k == j) (release_at rs j).time stop) until =
        time_is (λ (p : Piece). is_at (length (take j all)) p.job) (release_at rs j).time stop
        (λ k. k == j) (λ number s slice. ap (is_at (length (take j all))) (own_job number s slice)
        ∙ ap (λ n. s.job == n) before_it) in
        omega (
          arith,
          time,
          own_hits (release_at rs j).time stop until,
          executed_most until,
          (legal.within j is_job).executes,
          ap (λ k. (task_at U k).cost) (task_is j lt),
          cost_is,
        )

    -- ---- its period
    period_kept : IfSome (sight j lt).gap (λ gap. (sight j lt).promise.period ≤ gap)
    period_kept =
        elim (last_job (shown j).name (take j all)) as
        (λ o. last_job (shown j).name (take j all) ≡ o → IfSome
        (gap_since o (release_at rs j).time) (λ gap. (promise_at j lt).period ≤ gap)) [
          | None ↦ λ _. tt
          | Some b ↦ λ is.
              elim (last_found (shown j).name None (take j all) b (shown 0) is) [
                | inl none ↦ absurd (none-some b none)
                | inr found ↦
                    let k : ℕ = found.0 in
                    let earlier : k < j = omega (arith, found.1, before_it) in
                    let inside : k < length rs = omega arith in
                    let row : slice_index_or (take j all) k (shown 0) ≡ shown k =
                    get_or-take j all k (shown 0) earlier
                    ∙ all_at k (shown 0) inside in
                    let before : shown k ≡ b = sym row ∙ found.3 in
                    let names : same_bytes (shown k).name (shown j).name ≡ true =
                    ap (λ (x : TraceJob). same_bytes x.name (shown j).name) (sym row)
                    ∙ found.2 in
                    let task : (job_at jobs k).task ≡ (job_at jobs j).task = task_is k inside
                    ∙ same_task k j names ∙ sym (task_is j lt) in
                    omega (
                      arith,
                      legal.spaced k j earlier is_job task,
                      ap (λ x. (task_at U x).period) (task_is j lt),
                      period_is,
                      ap (λ (x : TraceJob). x.arrival) before,
                      arrival_is k inside,
                      arrival_is j lt,
                    )
              ]
        ] refl

    -- ---- its bound
    bound_kept : (sight j lt).lasted ≤ (sight j lt).promise.bound
    bound_kept =
        let done : DoneWithin U at.place rs until run.trace =
        at.done rs until run.trace (all_in_time U places rs until
        run.trace run.set run.order run.in_time run.runs).0 in
        elim (cases_lt until ((release_at rs j).time + at.place.response)) [
          | inl past ↦ omega (arith, past, stop_in_run j lt, bound_is)
          | inr in_run ↦
              let found = done j lt (sym at.task) in_run in
              let z : 0 + j ≡ j = omega arith in
              let row : (slice_index_or run.trace.jobs.items j no_record).finish
              ≡ finish_of j =
              ap (λ (x : List JobRecord). (slice_index_or x j no_record).finish) run.runs.2.jobs
              ∙ ap (λ (x : JobRecord). x.finish)
              (records_at node jobs until 0 rs j lt)
              ∙ ap (finish_of) z in
              let stops : stop ≡ found.0 = ap (λ o. unwrap_or o end) (sym row ∙ found.1) in
              omega (arith, stops, found.2, bound_is)
        ]

    -- ---- who executes while it waits
    abbrev from : ℕ
    from = ready_by (promise_at j lt) (shown j)

    foreign_kept : (sight j lt).foreign ≡ 0
    foreign_kept =
        time_is (λ (p : Piece). is_none p.level) from stop (λ _. false)
        (λ number s slice. ap is_none (own_level number s slice))
        ∙ total_same (hits turns (λ _. false) from stop) 0 until (omega arith)
        (λ t _ _. none_counts from stop t (turns t))
        ∙ total_start (hits turns (λ _. false) from stop)

    somebody : (t : ℕ) → lies from stop t ≡ true → (p : ℕ) × (turns t ≡ Some p)
    somebody t so =
        let parts = and_parts (nat_le from t) (nat_lt t stop) so in
        let after : from ≤ t = leb-true from t parts.0 in
        works_of node jobs t j is_job (omega (arith, after, ready_then))
        (waits j t lt (ltb-true t stop parts.1))

    idle_kept : (sight j lt).idle ≡ 0
    idle_kept = omega (
      arith,
      time_is (λ _. true) from stop (λ _. true) (λ number s slice. refl),
      total_run (hits turns (λ _. true) from stop) from stop 0 until (omega arith)
          (λ t _ _. all_count from stop t (turns t) (somebody t)),
      total_start (hits turns (λ _. true) from stop),
      stop_in_run j lt,
    )

    abbrev lower : ℕ → Bool
    lower = low node jobs is_node legal i (task_in j lt)

    abbrev lower_hits : ℕ → ℕ
    lower_hits = hits turns lower from stop

    blocking_kept : (sight j lt).blocked ≤ (sight j lt).promise.blocking
    blocking_kept =
        let same : (number : ℕ) (s : Slice) → IsRunSlice turns until s
        → is_below (level_at j lt) (piece turns until promises all records
        number s).level ≡ lower s.job = λ number s slice.
        let own : s.job < length rs = (first number s slice).0 in
        let their : level_of_job node jobs s.job ≡ suc (level_at s.job own) =
        ap (level_in_order node) (task_is s.job own) ∙ level_is s.job own in
        ap (is_below (level_at j lt)) (own_level number s slice) ∙ next_levels
        (level_at s.job own) (level_at j lt) ∙ sym (ap₂ nat_lt their (level_is j lt)) in
        let time : (sight j lt).blocked ≡ total lower_hits until =
        time_is (λ (p : Piece). is_below (level_at j lt) p.level) from stop lower same in
        let out : (t : ℕ) → lies from stop t ≡ false → lower_hits t ≡ 0 =
        λ t off. hit_outside lower from stop t (turns t) off in
        elim (cases_lt stop from) [
          | inl never ↦ omega (
            arith,
            time,
            total_start lower_hits,
            total_same lower_hits 0 until (omega arith) (λ t _ _. out t (elim (cases_lt t from) [
              | inl early ↦ lies_before from stop t early
              | inr late ↦ lies_after from stop t (omega (arith, never, late))
            ])),
          )
          | inr le ↦ omega (
            arith,
            time,
            total_start lower_hits,
            total_same lower_hits 0 from (omega arith)
                (λ t _ early. out t (lies_before from stop t early)),
            total_same lower_hits stop until (stop_in_run j lt)
                (λ t late _. out t (lies_after from stop t late)),
            low_most node jobs is_node legal i (task_in j lt) from stop j from stop is_job
                (omega (arith, ready_then))
                (omega (arith, ap (level_in_order node) (task_is j lt))) le
                (λ t _ early. waits j t lt early),
            blocking_is,
          )
        ]

    -- it keeps all that is promised of it
    pub keeps : Keeps (sight j lt)
    keeps = record {
      priority = none_stray (promise_at j lt) (length (take j all)) (release_at rs j).time stop
          run.first slices;
      cost = cost_kept;
      period = period_kept;
      jitter = tt;
      bound = bound_kept;
      blocking =
          blocking_kept;
      foreign = foreign_kept;
      idle = idle_kept;
    }

    -- and so all that the demand has room for
    pub keeps_to_demand : KeepsToDemand (sight j lt)
    keeps_to_demand = keeps-to_demand (sight j lt) (omega arith)
        (closest-short (promise_at j lt) (last_job (shown j).name (take j all))) (omega arith) keeps
