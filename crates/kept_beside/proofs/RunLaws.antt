-- What a trace of a run beside timers and interrupts shows keeps to the demand.
use Rattle.std.proofs.Common.{ℕ, zero, suc, ◌+◌, ◌-◌, ◌<◌, ◌≤◌, ◌≡◌, inl, inr, refl, sym, ap, ◌∙◌}
use Rattle.std.proofs.Common.{subst, arith, Bool, true, false, ◌&&◌, List, [], ◌∷◌, length, None, not}
use Rattle.std.proofs.Common.{Some, slice_index_or, unwrap_or, nat_le, nat_lt, All, cond}
use Rattle.std.proofs.Common.{take, Option, IfSome, is_none, is_some, max}
use Rattle.std.proofs.lemmas.Bool.{cases_Bool, cases_lt, cases_eq, and_from, and_left, and_right, le-leb}
use Rattle.std.proofs.lemmas.Bool.{lt-leb, lt-ltb, ltb-true, eqb-true, eq-eqb, cond-false, true≢false}
use Rattle.std.proofs.lemmas.Bool.{ne_eqb}
use Rattle.std.proofs.lemmas.List.{get_or-take, length-take}
use Rattle.std.proofs.lemmas.List.Elements.{All-from_recursion}
use Rattle.std.proofs.lemmas.List.Quantifiers.{position-Some}
use Rattle.std.proofs.lemmas.Option.{none-some, same_Some}
use Rattle.std.specs.List.{find}
use Rattle.std.specs.Option.{option_map}
use Rattle.task_sheet.proofs.Common.{Task, same_bytes, task_at, among, blocking_of, greatest_of}
use Rattle.task_sheet.proofs.Common.{IsResponseOf}
use Rattle.task_sheet.proofs.NameLaws.{same_own}
use Rattle.assignment.specs.Places.{PlaceData}
use Rattle.assignment.specs.Placings.{tasks_of_places}
use Rattle.explain.specs.Accounts.{IsInTime}
use Rattle.ceiling_kernel.proofs.Common.{Job, Node, job_at, node_in, level_of_job}
use Rattle.ceiling_kernel.proofs.Common.{IsNode, above_of, after_of}
use Rattle.ceiling_kernel.proofs.NodeLaws.{IsSoundTask, after_is_above, sound}
use Rattle.interrupted_runs.specs.Interrupted.{executed_beside}
use Rattle.interrupted_runs.specs.Seen.{is_lower, is_none_of_set, is_own, seen_within, IsOpen, SeenKeepsToDemand}
use Rattle.interrupted_runs.proofs.LateLaws.{beside_later, responses_hold}
use Rattle.interrupted_runs.proofs.SeenLaws.{keeps}
use Rattle.trace_text.specs.declared.fault.TraceFault.TheVariants as fault
use Rattle.trace_text.specs.declared.reading.TraceLines.{TraceLines}
use Rattle.trace_text.specs.declared.rows.TraceJob.{TraceJob}
use Rattle.trace_text.specs.declared.rows.TraceSlice.{TraceSlice}
use Rattle.observed.proofs.PlaceLaws.{order-within}
use Rattle.observed.specs.End.{end_of, last_of}
use Rattle.observed.specs.Observed.{observed_fault, observed_in, seen_jobs}
use Rattle.observed.specs.Pieces.{is_of, job_of, level_of, is_homeless, pieces_of}
use Rattle.observed.specs.Promises.{no_promise, number_at, promises_of}
use Rattle.observed.specs.Ranks.{is_stray, is_wrong, may_run_at, stray_in}
use Rattle.observed.specs.Seen.{closest_to, gap_since, last_job, ready_by, seen_job, until_of}
use Rattle.observed.specs.SeenJob.{SeenData}
use Rattle.observed.specs.Shares.{is_at, is_below, overlap}
use Rattle.observed.specs.declared.pieces.Piece.{Piece}
use Rattle.observed.specs.declared.promises.Promise.{Promise}
use Rattle.kept_promises.specs.KeptPromises.{KeepsToDemand}
use Rattle.kept_promises.proofs.LevelLaws.{IsPlaced, one_name, placed_level, position_is, stands_at}
use Rattle.kept_promises.proofs.ListLaws.{each_seen, greatest_most, last_found}
use Rattle.kept_promises.proofs.TickLaws.{time_by, total_start}
use Rattle.kept_beside.specs.ShownSlices.{IsOfJob, IsStrange, IsThere, ShowTicks}
use Rattle.kept_beside.specs.ShownSlices.{priority_in}
use Rattle.kept_beside.specs.ShownJobs.{AreJobLines, IsFinish, IsJobLine}
use Rattle.kept_beside.specs.Beside.{AreBeside}
use Rattle.kept_beside.proofs.NameLaws.{no_level, number_is, promises_length}
use Rattle.kept_beside.proofs.RankLaws.{may_run}
use Rattle.kept_beside.proofs.ShareLaws.{is_of_set, IsShown, parts, piece, tick, time_least, time_most}
use Rattle.kept_beside.proofs.ShareLaws.{time_parts, window}

-- ---- lists
-- stands past the end of the job lines
abbrev pub no_row : TraceJob
no_row = record { line = 0; name = []; arrival = 0; finish = None; ready = None }

-- each line is its job's
line_at : (comes : ℕ → ℕ) (node : Node) (jobs : List Job) (until j : ℕ) (rows : List TraceJob) (k : ℕ)
    → AreJobLines comes node jobs until j rows → k < length rows
    → IsJobLine comes node jobs until (j + k) (slice_index_or rows k no_row)
line_at comes node jobs until j [] k are lt = absurd (omega (arith, lt))
line_at comes node jobs until j (row ∷ rows) zero are lt =
    let same : j ≡ j + 0 = omega arith in
    subst (λ n. IsJobLine comes node jobs until n row) same are.0
line_at comes node jobs until j (row ∷ rows) (suc k) are lt =
    let same : j + 1 + k ≡ j + suc k = omega arith in
    subst (λ n. IsJobLine comes node jobs until n (slice_index_or rows k no_row)) same
    (line_at comes node jobs until (j + 1) rows k are.1 (omega (arith, lt)))

lines_length : (comes : ℕ → ℕ) (node : Node) (jobs : List Job) (until j : ℕ) (rows : List TraceJob)
    → AreJobLines comes node jobs until j rows → j + length rows ≡ length jobs
lines_length comes node jobs until j [] are = omega (arith, are)
lines_length comes node jobs until j (row ∷ rows) are =
    omega (arith, lines_length comes node jobs until (j + 1) rows are.1)

-- the stops of slices lie in the run
stops_within : (comes : ℕ → ℕ) (node : Node) (numbers : List ℕ) (jobs : List Job) (shown : ℕ → Option ℕ)
    (until from : ℕ) (ss : List TraceSlice) → ShowTicks comes node numbers jobs shown from until ss
    → greatest_of (λ (s : TraceSlice). s.stop) ss ≤ until
stops_within comes node numbers jobs shown until from [] h = omega arith
stops_within comes node numbers jobs shown until from (s ∷ ss) h =
    omega (arith, h.2, stops_within comes node numbers jobs shown until s.stop ss h.5)

module _ {U : List Task} {numbers : List ℕ} {places : List PlaceData} {lines : TraceLines}
    (run : AreBeside U numbers places lines) where
  abbrev node : Node
  node = node_in U (tasks_of_places places)

  is_node : IsNode node
  is_node = record { tasks = run.set; order = run.order }

  abbrev jobs : List Job
  jobs = run.jobs

  abbrev until : ℕ
  until = run.until

  abbrev shown : ℕ → Option ℕ
  shown = run.shown

  abbrev all : List TraceJob
  all = lines.jobs.items

  abbrev rows : List TraceSlice
  rows = lines.slices.items

  abbrev promises : List Promise
  promises = promises_of U numbers places

  abbrev part : TraceSlice → Piece
  part = piece run.comes node numbers jobs shown until promises all

  abbrev pieces : List Piece
  pieces = pieces_of promises all rows

  abbrev end : ℕ
  end = end_of rows all

  -- for how long a job has executed before a tick, and for how long it executes in all
  abbrev executed : (t j : ℕ) → ℕ
  executed t j = executed_beside run.comes node jobs t j

  abbrev executes : ℕ → ℕ
  executes j = (job_at jobs j).executes

  later : (j t u : ℕ) → t ≤ u → executed t j ≤ executed u j
  later j t u le = beside_later run.comes node jobs t u j le

  -- ---- its line
  abbrev row : ℕ → TraceJob
  row j = slice_index_or all j no_row

  all_length : length all ≡ length jobs
  all_length = omega (arith, lines_length run.comes node jobs until 0 all run.lines_of_jobs)

  line : (j : ℕ) → j < length jobs → IsJobLine run.comes node jobs until j (row j)
  line j lt =
      let z : 0 + j ≡ j = omega arith in
      subst (λ n. IsJobLine run.comes node jobs until n (row j)) z
      (line_at run.comes node jobs until 0 all j run.lines_of_jobs (omega (arith, lt, all_length)))

  -- ---- its task
  abbrev task_of : ℕ → ℕ
  task_of j = (job_at jobs j).task

  task_in : (j : ℕ) → j < length jobs → task_of j < length U
  task_in j lt = run.legal.known j lt

  placed : (i : ℕ) → i < length U → (level : ℕ) × IsPlaced U numbers 0 places i level
  placed = stands_at U run.set numbers places run.order

  abbrev level_at : (j : ℕ) → j < length jobs → ℕ
  level_at j lt = (placed (task_of j) (task_in j lt)).0

  level_named : (j : ℕ) (lt : j < length jobs) (name : List ℕ) → name ≡ (task_at U (task_of j)).name
      → level_of promises name ≡ Some (level_at j lt)
  level_named j lt name is =
      let at = placed (task_of j) (task_in j lt) in
      ap (level_of promises) is ∙ placed_level U numbers places (task_of j) at.0 at.1

  level_is : (j : ℕ) (lt : j < length jobs) → level_of_job node jobs j ≡ suc (level_at j lt)
  level_is j lt = (placed (task_of j) (task_in j lt)).1.level_is 1 ∙ omega arith

  -- a strange name has no level, and no job
  strange_level : (name : List ℕ) → IsStrange U name → level_of promises name ≡ None
  strange_level name strange =
      no_level U numbers places name (order-within U places run.order) strange

  strange_job : (s : TraceSlice) → IsStrange U s.name → job_of all s ≡ None
  strange_job s strange =
      elim (job_of all s) as (λ o. job_of all s ≡ o → o ≡ None) [
        | None ↦ λ _. refl
        | Some k ↦ λ is.
            let found = position-Some (λ (j : TraceJob). is_of s j) all k no_row is in
            let lt : k < length jobs = omega (arith, found.0, all_length) in
            let other : same_bytes (row k).name s.name ≡ false =
            ap (λ (name : List ℕ). same_bytes name s.name) (line k lt).name
            ∙ strange (task_of k) (task_in k lt) in
            let never : is_of s (row k) ≡ false =
            and_left (same_bytes (row k).name s.name) (nat_le (row k).arrival s.start
            && nat_le s.stop (unwrap_or (row k).finish s.stop)) other in
            absurd (true≢false (sym found.1 ∙ never))
      ] refl

  -- ---- its bound
  -- what is promised of it
  abbrev promise_at : (j : ℕ) → j < length jobs → Promise
  promise_at j lt = slice_index_or promises (level_at j lt) no_promise

  over : (i : ℕ) → i < length U → (level : ℕ) → (at : IsPlaced U numbers 0 places i level)
      → among (tasks_of_places at.above) ≡ above_of node i
  over i is level at =
      let own : among (after_of (tasks_of_places places) i) ≡ above_of node i =
      λ x h. after_is_above node is_node i h is x in
      ap (λ (above : List ℕ). among above) (sym at.after) ∙ own

  -- by its response it has executed all, within its deadline
  responded : (j : ℕ) (lt : j < length jobs)
      → (executes j ≤ executed ((job_at jobs j).arrival + (promise_at j lt).bound) j)
      × ((promise_at j lt).bound ≤ (task_at U (task_of j)).deadline)
  responded j lt =
      let i : ℕ = task_of j in
      let at = (placed i (task_in j lt)).1 in
      let own : IsInTime U (tasks_of_places at.above) at.place = at.in_time run.in_time in
      let bound : (promise_at j lt).bound ≡ at.place.response = ap (λ (q : Promise). q.bound) at.promise in
      let deadline : at.place.response ≤ (task_at U i).deadline =
      omega (arith, own.in_time, ap (λ k. (task_at U k).deadline) at.task) in
      let response : IsResponseOf U i (above_of node i) at.place.response =
      subst (λ H. IsResponseOf U i H at.place.response) (over i (task_in j lt) (level_at j lt) at)
      (subst (λ k. IsResponseOf U k (among (tasks_of_places at.above)) at.place.response) at.task own.response) in
      let done = responses_hold run.comes node jobs is_node run.legal run.counted j at.place.response lt response
      deadline in
      let there = ap (λ r. executed ((job_at jobs j).arrival + r) j) bound in
      (omega (arith, done, there), omega (arith, deadline, bound))

  -- where it is done by a time of the run, so is it by its line
  done_by : (j t : ℕ) → j < length jobs → t ≤ until → executes j ≤ executed t j
      → (f : ℕ) × ((row j).finish ≡ Some f) × (f ≤ t)
  done_by j t lt le done =
      elim (row j).finish as (λ o. (row j).finish ≡ o → IsFinish run.comes node jobs until j o
      → (f : ℕ) × ((row j).finish ≡ Some f) × (f ≤ t)) [
        | None ↦ λ is never. absurd (omega (arith, never t le, done))
        | Some f ↦ λ is finish. elim (cases_lt t f) [
          | inl early ↦ absurd (omega (arith, finish.2 t early, done))
          | inr by ↦ (f, is, by)
        ]
      ] refl (line j lt).finish

  -- so is each job before another of its task is ready
  finished_before : (i p : ℕ) → i < p → p < length jobs → task_of i ≡ task_of p
      → (job_at jobs p).ready ≤ until
      → (f : ℕ) × ((row i).finish ≡ Some f) × (f ≤ (job_at jobs p).ready)
  finished_before i p before lt same in_run =
      let is : i < length jobs = omega arith in
      let own = responded i is in
      let v : IsSoundTask node (task_of i) = (sound node is_node).each (task_of i) (task_in i is) in
      let deadline : (task_at U (task_of i)).deadline ≤ (task_at U (task_of i)).period = v.deadline_within in
      let gap = run.legal.spaced i p before lt same in
      let period = ap (λ k. (task_at U k).period) same in
      let early = run.legal.not_early p lt in
      let by : (job_at jobs i).arrival + (promise_at i is).bound ≤ (job_at jobs p).ready =
      omega (arith, own.1, deadline, gap, period, early) in
      let found = done_by i ((job_at jobs i).arrival + (promise_at i is).bound) is (omega (arith, by, in_run))
      own.0 in
      (found.0, found.1, omega (arith, found.2, by))

  -- ---- of which job a slice is
  abbrev IsSlice : TraceSlice → Type 0
  IsSlice s = IsShown run.comes node numbers jobs shown until s

  abbrev IsOf : TraceSlice → ℕ → Type 0
  IsOf s p = IsOfJob run.comes node numbers jobs shown s p

  module _ (s : TraceSlice) (slice : IsSlice s) (p : ℕ) (own : IsOf s p) where
    at_start : IsThere run.comes node jobs s.start p
    at_start = run.are_shown.there s.start p (own.all s.start (omega arith) slice.lasts)

    is_job : p < length jobs
    is_job = at_start.is_job

    -- it ends by the finish of its job
    stops : nat_le s.stop (unwrap_or (row p).finish s.stop) ≡ true
    stops =
        elim (row p).finish as (λ o. IsFinish run.comes node jobs until p o
        → nat_le s.stop (unwrap_or o s.stop) ≡ true) [
          | None ↦ λ _. le-leb s.stop s.stop (omega arith)
          | Some f ↦ λ finish. elim (cases_lt f s.stop) [
            | inr in_time ↦ le-leb s.stop f in_time
            | inl past ↦
                let last : IsThere run.comes node jobs (s.stop - 1) p =
                run.are_shown.there (s.stop - 1) p
                (own.all (s.stop - 1) (omega (arith, slice.lasts)) (omega (arith, past))) in
                absurd (omega (
                  arith,
                  last.lacks,
                  finish.1,
                  later p f (s.stop - 1) (omega (arith, past)),
                ))
          ]
        ] (line p is_job).finish

    -- what the test asks of a job
    abbrev has_name : ℕ → Bool
    has_name k = same_bytes (row k).name s.name

    abbrev begun : ℕ → Bool
    begun k = nat_le (row k).arrival s.start

    abbrev not_over : ℕ → Bool
    not_over k = nat_le s.stop (unwrap_or (row k).finish s.stop)

    is_own_row : is_of s (row p) ≡ true
    is_own_row =
        let name : (row p).name ≡ s.name = (line p is_job).name ∙ sym own.name in
        and_from (has_name p) (begun p && not_over p)
        (ap (λ (n : List ℕ). same_bytes n s.name) name ∙ same_own s.name)
        (and_from (begun p) (not_over p)
        (le-leb (row p).arrival s.start (omega (arith, (line p is_job).no_later, at_start.ready))) stops)

    others : (i : ℕ) → i < p → is_of s (row i) ≡ false
    others i before = elim (cases_Bool (has_name i)) [
      | inr differ ↦ and_left (has_name i) (begun i && not_over i) differ
      | inl equal ↦
          let is : i < length jobs = omega (arith, before, is_job) in
          let names : same_bytes (task_at U (task_of i)).name (task_at U (task_of p)).name ≡ true =
          ap (λ (n : List ℕ). same_bytes n (task_at U (task_of p)).name) (sym (line i is).name)
          ∙ ap (same_bytes (row i).name) (sym own.name) ∙ equal in
          let same : task_of i ≡ task_of p =
          one_name U run.set (task_of i) (task_of p) (task_in i is) (task_in p is_job) names in
          let finish = finished_before i p before is_job same
          (omega (arith, at_start.ready, slice.lasts, slice.in_run)) in
          let over_ : not_over i ≡ false = ap (λ o. nat_le s.stop (unwrap_or o s.stop)) finish.1
          ∙ lt-leb s.stop finish.0 (omega (arith, finish.2, at_start.ready, slice.lasts)) in
          and_right (has_name i) (begun i && not_over i) (and_right (begun i) (not_over i) over_)
    ]

    -- a slice of a job lies in its line
    own_job : job_of all s ≡ Some p
    own_job =
        position_is (λ (job : TraceJob). is_of s job) all p no_row
        (omega (arith, is_job, all_length)) (λ k before. others k before) is_own_row

    own_level : level_of promises s.name ≡ Some (level_at p is_job)
    own_level = level_named p is_job s.name own.name

  -- ==== each slice of a task lies in a job of it
  housed_one : (s : TraceSlice) → IsSlice s → is_homeless (part s) ≡ false
  housed_one s slice = elim slice.who [
    | inl stranger ↦ and_left (is_some (part s).level) (is_none (part s).job)
        (ap is_some (strange_level s.name stranger.name))
    | inr own ↦ and_right (is_some (part s).level) (is_none (part s).job)
        (ap is_none (own_job s slice own.0 own.1))
  ]

  none_homeless : (from : ℕ) (ss : List TraceSlice)
      → ShowTicks run.comes node numbers jobs shown from until ss
      → find is_homeless (pieces_of promises all ss) ≡ None
  none_homeless from [] h = refl
  none_homeless from (s ∷ ss) h =
      cond-false (is_homeless (part s)) (Some (part s)) (find is_homeless (pieces_of promises all ss))
      (housed_one s (record { lasts = h.1; in_run = h.2; who = h.4 })) ∙ none_homeless s.stop ss h.5

  pub housed : observed_fault promises lines ≡ None
  housed = ap (λ (o : Option Piece). option_map (λ l. fault.NoJob l)
      (option_map (λ (p : Piece). p.line) o)) (none_homeless 0 rows run.slices)

  -- ---- the end
  end_in_run : end ≤ until
  end_in_run =
      let stops : greatest_of (λ (s : TraceSlice). s.stop) rows ≤ until =
      stops_within run.comes node numbers jobs shown until 0 rows run.slices in
      let lasts : greatest_of last_of all ≤ until =
      greatest_most last_of until all no_row (λ k within. last_in_run k (omega (arith, within, all_length))) in
      omega (arith, stops, lasts)
    where
      last_in_run : (j : ℕ) → j < length jobs → last_of (row j) ≤ until
      last_in_run j lt =
          elim (row j).finish as (λ o. IsFinish run.comes node jobs until j o
          → unwrap_or o (row j).arrival ≤ until) [
            | Some f ↦ λ finish. finish.0
            | None ↦ λ _. (line j lt).in_run
          ] (line j lt).finish

  -- until then a job lacks some
  waits : (j t : ℕ) → j < length jobs → t < until_of end (row j) → executed t j < executes j
  waits j t lt before =
      elim (row j).finish as (λ o. IsFinish run.comes node jobs until j o → t < unwrap_or o end
      → executed t j < executes j) [
        | Some f ↦ λ finish early. finish.2 t early
        | None ↦ λ never early. never t (omega (arith, early, end_in_run))
      ] (line j lt).finish before

  stop_in_run : (j : ℕ) → j < length jobs → until_of end (row j) ≤ until
  stop_in_run j lt =
      elim (row j).finish as (λ o. IsFinish run.comes node jobs until j o → unwrap_or o end ≤ until) [
        | Some f ↦ λ finish. finish.0
        | None ↦ λ _. end_in_run
      ] (line j lt).finish

  -- ==== what is seen of a job
  abbrev sight : (j : ℕ) → j < length jobs → SeenData
  sight j lt = seen_job U promises (promise_at j lt) (level_at j lt) end pieces (take j all) (row j)

  -- what holds of what is seen of each job, holds of all that is seen
  all_seen : (P : SeenData → Type 0) → ((j : ℕ) (lt : j < length jobs) → P (sight j lt))
      → All P (observed_in U promises lines)
  all_seen P each =
      let here : (j level : ℕ) → j < length all → level_of promises (row j).name ≡ Some level
      → P (seen_job U promises (slice_index_or promises level no_promise) level end pieces (take j all) (row j)) =
      λ j level within at.
      let lt : j < length jobs = omega (arith, within, all_length) in
      let same : level_at j lt ≡ level =
      same_Some (level_at j lt) level (sym (level_named j lt (row j).name (line j lt).name) ∙ at) in
      subst (λ l. P (seen_job U promises (slice_index_or promises l no_promise) l end pieces
      (take j all) (row j))) same (each j lt) in
      All-from_recursion P (seen_jobs U promises end pieces all)
      (each_seen P U promises end pieces all no_row here 0 all
      (λ k within. (let z : k ≡ 0 + k = omega arith in
      (omega (arith, within), ap (λ n. slice_index_or all n no_row) z))))

  module _ (j : ℕ) (lt : j < length jobs) where
    abbrev i : ℕ
    i = task_of j

    abbrev stop : ℕ
    stop = until_of end (row j)

    abbrev place : ℕ
    place = length (take j all)

    at : IsPlaced U numbers 0 places i (level_at j lt)
    at = (placed i (task_in j lt)).1

    before_it : place ≡ j
    before_it = omega (arith, length-take j all, all_length, lt)

    cost_is : (promise_at j lt).cost ≡ (task_at U i).cost
    cost_is = ap (λ (q : Promise). q.cost) at.promise ∙ ap (λ k. (task_at U k).cost) at.task

    period_is : (promise_at j lt).period ≡ (task_at U i).period
    period_is = ap (λ (q : Promise). q.period) at.promise ∙ ap (λ k. (task_at U k).period) at.task

    jitter_is : (promise_at j lt).jitter ≡ (task_at U i).jitter
    jitter_is = ap (λ (q : Promise). q.jitter) at.promise ∙ ap (λ k. (task_at U k).jitter) at.task

    task_is : (promise_at j lt).task ≡ i
    task_is = ap (λ (q : Promise). q.task) at.promise ∙ at.task

    blocking_is : (promise_at j lt).blocking ≡ blocking_of U i (above_of node i)
    blocking_is =
        ap (λ (q : Promise). q.blocking) at.promise
        ∙ ap (λ k. blocking_of U k (among (tasks_of_places at.above))) at.task
        ∙ ap (blocking_of U i) (over i (task_in j lt) (level_at j lt) at)

    late_most : (job_at jobs j).ready ≤ (job_at jobs j).arrival + (promise_at j lt).jitter
    late_most = omega (arith, run.legal.not_late j lt, jitter_is)

    -- ---- its priority
    -- a slice that is counted as the job's runs at a priority at which it may
    may_be : (s : TraceSlice) → IsSlice s
        → is_stray U promises (promise_at j lt) place (row j).arrival stop (part s) ≡ false
    may_be s slice = elim slice.who [
      | inl stranger ↦ not_counted s (strange_job s stranger.name ∙ refl) refl
      | inr own ↦ elim (cases_eq own.0 j) [
        | inr ne ↦ not_counted s (own_job s slice own.0 own.1) (ne_eqb own.0 place (λ e. ne (omega (arith, e, before_it))))
        | inl mine ↦ and_right _ (is_wrong U promises (promise_at j lt) s.priority) (right s slice
            (subst (λ p. IsOf s p) mine own.1))
      ]
    ]
      where
        not_counted : (s : TraceSlice) {o : Option ℕ} → job_of all s ≡ o → is_at place o ≡ false
            → is_stray U promises (promise_at j lt) place (row j).arrival stop (part s) ≡ false
        not_counted s {o} is out =
            let none : is_at place (part s).job ≡ false = ap (is_at place) is ∙ out in
            let share : ℕ = cond (is_at place (part s).job) (overlap (row j).arrival stop (part s)) 0 in
            let nothing : share ≡ 0 = rw none refl in
            and_left (nat_lt 0 share) (is_wrong U promises (promise_at j lt) s.priority) (ap (nat_lt 0) nothing)

        number_own : (promise_at j lt).number ≡ number_at numbers (level_at j lt)
        number_own =
            let within : level_at j lt < length places =
            omega (arith, at.within, promises_length U numbers 0 places) in
            let z : 0 + level_at j lt ≡ level_at j lt = omega arith in
            number_is U numbers 0 places (level_at j lt) within ∙ ap (number_at numbers) z

        right : (s : TraceSlice) → IsSlice s → IsOf s j
            → is_wrong U promises (promise_at j lt) s.priority ≡ false
        right s slice own =
            elim s.priority as (λ o. IfSome o (λ number. (t : ℕ) × (s.start ≤ t) × (t < s.stop)
            × (number ≡ priority_in run.comes node numbers jobs t j)) → is_wrong U promises (promise_at j lt) o ≡ false) [
              | None ↦ λ _. refl
              | Some number ↦ λ is.
                  let may = may_run U numbers places run.rise jobs run.legal.within
                  (executed_beside run.comes node jobs is.0) j (level_at j lt) (promise_at j lt) (level_is j lt)
                  number_own task_is in
                  ap not (ap (may_run_at U promises (promise_at j lt)) is.3 ∙ may)
            ] own.priority

    none_stray : (from : ℕ) (ss : List TraceSlice) → ShowTicks run.comes node numbers jobs shown from until ss
        → stray_in U promises (promise_at j lt) place (row j).arrival stop (pieces_of promises all ss) ≡ None
    none_stray from [] h = refl
    none_stray from (s ∷ ss) h =
        cond-false (is_stray U promises (promise_at j lt) place (row j).arrival stop (part s)) s.priority
        (stray_in U promises (promise_at j lt) place (row j).arrival stop (pieces_of promises all ss))
        (may_be s (record { lasts = h.1; in_run = h.2; who = h.4 })) ∙ none_stray s.stop ss h.5

    -- ---- those who execute
    module _ (counted : Piece → Bool) (lo : ℕ) (c : Option ℕ → Bool) where
      at_most : ((s : TraceSlice) → IsSlice s → counted (part s) ≡ true → (t : ℕ) → s.start ≤ t → t < s.stop
          → c (shown t) ≡ true) → time_by counted lo stop pieces ≤ seen_within c shown lo (stop - lo)
      at_most same = omega (
        arith,
        time_most run.comes node numbers jobs shown until promises all counted lo stop c same 0 rows
            (omega arith) run.slices,
        total_start (tick shown c lo stop),
        window shown c lo stop until (stop_in_run j lt),
      )

      at_least : c None ≡ false → ((s : TraceSlice) → IsSlice s → counted (part s) ≡ false → (t : ℕ)
          → s.start ≤ t → t < s.stop → c (shown t) ≡ false)
          → seen_within c shown lo (stop - lo) ≤ time_by counted lo stop pieces
      at_least none same = omega (
        arith,
        time_least run.comes node numbers jobs shown until promises all counted lo stop c none same 0 rows
            (omega arith) run.slices,
        total_start (tick shown c lo stop),
        window shown c lo stop until (stop_in_run j lt),
      )

    demand : SeenKeepsToDemand run.comes node jobs shown
    demand = keeps run.comes node jobs is_node run.legal run.counted shown run.are_shown.ruled

    -- ---- its cost
    cost_kept : (sight j lt).executed ≤ (sight j lt).may_execute
    cost_kept =
        let time : (sight j lt).executed ≤ seen_within (is_own j) shown (row j).arrival (stop - (row j).arrival) =
        at_most (λ (p : Piece). is_at place p.job) (row j).arrival (is_own j) own in
        elim (cases_eq (stop - (row j).arrival) 0) [
          | inl none ↦
              let nothing : seen_within (is_own j) shown (row j).arrival (stop - (row j).arrival) ≡ 0 =
              ap (seen_within (is_own j) shown (row j).arrival) none in
              omega (arith, time, nothing)
          | inr some ↦ omega (
            arith,
            time,
            demand.own j (row j).arrival (stop - (row j).arrival) (omega (arith, some)),
            (run.legal.within j lt).executes,
            cost_is,
          )
        ]
      where
        own : (s : TraceSlice) → IsSlice s → is_at place (part s).job ≡ true → (t : ℕ) → s.start ≤ t
            → t < s.stop → is_own j (shown t) ≡ true
        own s slice so t from to = elim slice.who [
          | inl stranger ↦ absurd (true≢false (sym so ∙ ap (is_at place) (strange_job s stranger.name)))
          | inr one ↦
              let same : one.0 ≡ place = eqb-true one.0 place
              (ap (is_at place) (sym (own_job s slice one.0 one.1)) ∙ so) in
              ap (is_own j) (one.1.all t from to) ∙ eq-eqb one.0 j (omega (arith, same, before_it))
        ]

    -- ---- its period and its jitter
    period_kept : IfSome (sight j lt).gap (λ gap. (sight j lt).closest ≤ gap)
    period_kept =
        elim (last_job (row j).name (take j all)) as
        (λ o. last_job (row j).name (take j all) ≡ o → IfSome
        (gap_since o (row j).arrival) (λ gap. closest_to (promise_at j lt) o ≤ gap)) [
          | None ↦ λ _. tt
          | Some b ↦ λ is.
              elim (last_found (row j).name None (take j all) b no_row is) [
                | inl none ↦ absurd (none-some b none)
                | inr found ↦
                    let k : ℕ = found.0 in
                    let earlier : k < j = omega (arith, found.1, before_it) in
                    let inside : k < length jobs = omega (arith, earlier, lt) in
                    let own : slice_index_or (take j all) k no_row ≡ row k = get_or-take j all k no_row earlier in
                    let before : row k ≡ b = sym own ∙ found.3 in
                    let names : same_bytes (task_at U (task_of k)).name (task_at U i).name ≡ true =
                    ap (λ (n : List ℕ). same_bytes n (task_at U i).name) (sym (line k inside).name)
                    ∙ ap (same_bytes (row k).name) (sym (line j lt).name)
                    ∙ ap (λ (x : TraceJob). same_bytes x.name (row j).name) (sym own) ∙ found.2 in
                    let task : task_of k ≡ task_of j =
                    one_name U run.set (task_of k) i (task_in k inside) (task_in j lt) names in
                    let their : IsJobLine run.comes node jobs until k b =
                    subst (λ (x : TraceJob). IsJobLine run.comes node jobs until k x) before (line k inside) in
                    spaced k earlier task b their
              ]
        ] refl
      where
        spaced : (k : ℕ) → k < j → task_of k ≡ task_of j → (b : TraceJob)
            → IsJobLine run.comes node jobs until k b
            → closest_to (promise_at j lt) (Some b) ≤ (row j).arrival - b.arrival
        spaced k earlier task b their =
            let gap = run.legal.spaced k j earlier lt task in
            let late = run.legal.not_late k (omega (arith, earlier, lt)) in
            let same = ap (λ x. (task_at U x).jitter) task in
            elim b.ready as (λ o. IfSome o (λ time. (time ≡ (job_at jobs k).ready)
            × (b.arrival ≡ (job_at jobs k).arrival))
            → cond (is_some o) (promise_at j lt).period ((promise_at j lt).period - (promise_at j lt).jitter)
            ≤ (row j).arrival - b.arrival) [
              | None ↦ λ _. omega (
                arith,
                gap,
                late,
                same,
                their.no_later,
                (line j lt).no_sooner,
                period_is,
                jitter_is,
              )
              | Some time ↦ λ said. omega (
                arith,
                gap,
                said.1,
                (line j lt).no_sooner,
                period_is,
              )
            ] their.ready

    jitter_kept : IfSome (sight j lt).delay (λ delay. delay ≤ (sight j lt).promise.jitter)
    jitter_kept =
        elim (row j).ready as (λ o. IfSome o (λ time. (time ≡ (job_at jobs j).ready)
        × ((row j).arrival ≡ (job_at jobs j).arrival))
        → IfSome (option_map (λ r. r - (row j).arrival) o) (λ delay. delay ≤ (promise_at j lt).jitter)) [
          | None ↦ λ _. tt
          | Some time ↦ λ said. omega (arith, said.0, said.1, late_most)
        ] (line j lt).ready

    -- ---- its bound
    bound_kept : (sight j lt).lasted ≤ (sight j lt).promise.bound
    bound_kept =
        let own = responded j lt in
        let due : ℕ = (job_at jobs j).arrival + (promise_at j lt).bound in
        elim (cases_lt due stop) [
          | inl late ↦ absurd (omega (arith, waits j due lt late, own.0))
          | inr in_time ↦ omega (arith, in_time, (line j lt).no_sooner)
        ]

    -- ---- who executes while it waits
    abbrev from : ℕ
    from = ready_by (promise_at j lt) (row j)

    ready_then : (job_at jobs j).ready ≤ from
    ready_then =
        elim (row j).ready as (λ o. IfSome o (λ time. (time ≡ (job_at jobs j).ready)
        × ((row j).arrival ≡ (job_at jobs j).arrival))
        → (job_at jobs j).ready ≤ max (row j).arrival (unwrap_or o ((row j).arrival + (promise_at j lt).jitter))) [
          | None ↦ λ _. omega (arith, late_most, (line j lt).no_sooner)
          | Some time ↦ λ said. omega (arith, said.0)
        ] (line j lt).ready

    is_open : 0 < stop - from → IsOpen run.comes node jobs j from (stop - from)
    is_open some = record {
      is_job = lt;
      ready = ready_then;
      lacks = λ u early. waits j u lt (omega (arith, some, early));
    }

    blocking_kept : (sight j lt).blocked ≤ (sight j lt).may_be_blocked
    blocking_kept =
        let time : (sight j lt).blocked ≤ seen_within (is_lower node jobs j) shown from (stop - from) =
        at_most (λ (p : Piece). is_below (level_at j lt) p.level) from (is_lower node jobs j) lower in
        elim (cases_eq (stop - from) 0) [
          | inl none ↦
              let nothing : seen_within (is_lower node jobs j) shown from (stop - from) ≡ 0 =
              ap (seen_within (is_lower node jobs j) shown from) none in
              omega (arith, time, nothing)
          | inr some ↦ omega (
            arith,
            time,
            demand.blocked j from (stop - from) (omega (arith, some)) (is_open (omega (arith, some))),
            blocking_is,
          )
        ]
      where
        lower : (s : TraceSlice) → IsSlice s → is_below (level_at j lt) (part s).level ≡ true → (t : ℕ)
            → s.start ≤ t → t < s.stop → is_lower node jobs j (shown t) ≡ true
        lower s slice so t after before = elim slice.who [
          | inl stranger ↦ absurd (true≢false (sym so
              ∙ ap (is_below (level_at j lt)) (strange_level s.name stranger.name)))
          | inr one ↦
              let p : ℕ = one.0 in
              let is : p < length jobs = is_job s slice p one.1 in
              let less : level_at p is < level_at j lt = ltb-true (level_at p is) (level_at j lt)
              (ap (is_below (level_at j lt)) (sym (own_level s slice p one.1)) ∙ so) in
              ap (is_lower node jobs j) (one.1.all t after before)
              ∙ lt-ltb (level_of_job node jobs p) (level_of_job node jobs j)
              (omega (arith, less, level_is p is, level_is j lt))
        ]

    -- other threads, and nobody
    foreign_most : (sight j lt).foreign ≤ seen_within is_none_of_set shown from (stop - from)
    foreign_most = at_most (λ (p : Piece). is_none p.level) from is_none_of_set strange
      where
        strange : (s : TraceSlice) → IsSlice s → is_none (part s).level ≡ true → (t : ℕ) → s.start ≤ t
            → t < s.stop → is_none_of_set (shown t) ≡ true
        strange s slice so t after before = elim slice.who [
          | inl stranger ↦ ap is_none_of_set (stranger.all t after before)
          | inr one ↦ absurd (true≢false (sym so ∙ ap is_none (own_level s slice one.0 one.1)))
        ]

    others_least : seen_within is_of_set shown from (stop - from)
        ≤ time_by (λ (p : Piece). not (is_none p.level)) from stop pieces
    others_least = at_least (λ (p : Piece). not (is_none p.level)) from is_of_set refl strange
      where
        strange : (s : TraceSlice) → IsSlice s → not (is_none (part s).level) ≡ false → (t : ℕ) → s.start ≤ t
            → t < s.stop → is_of_set (shown t) ≡ false
        strange s slice so t after before = elim slice.who [
          | inl stranger ↦ ap is_of_set (stranger.all t after before)
          | inr one ↦ absurd (true≢false (sym (ap (λ (o : Option ℕ). not (is_none o)) (own_level s slice one.0 one.1))
              ∙ so))
        ]

    taken_kept : (sight j lt).foreign + (sight j lt).idle ≤ (sight j lt).may_be_taken
    taken_kept =
        let any : (sight j lt).foreign + time_by (λ (p : Piece). not (is_none p.level)) from stop pieces
        ≡ time_by (λ (p : Piece). true) from stop pieces =
        time_parts (λ (p : Piece). is_none p.level) from stop pieces in
        let idle : (sight j lt).idle ≡ stop - from - time_by (λ (p : Piece). true) from stop pieces = refl in
        let sum : seen_within is_of_set shown from (stop - from)
        + seen_within is_none_of_set shown from (stop - from) ≡ stop - from = parts shown from (stop - from) in
        elim (cases_eq (stop - from) 0) [
          | inl none ↦ omega (arith, none, any, idle, sum, foreign_most, others_least)
          | inr some ↦ omega (
            arith,
            demand.idle j from (stop - from) (omega (arith, some)) (is_open (omega (arith, some))),
            any,
            idle,
            sum,
            foreign_most,
            others_least,
          )
        ]

    -- it keeps all that the demand has room for
    kept : KeepsToDemand (sight j lt)
    kept = record {
      priority = none_stray 0 rows run.slices;
      cost = cost_kept;
      period = period_kept;
      jitter = jitter_kept;
      bound = bound_kept;
      blocking = blocking_kept;
      taken = taken_kept;
    }

  pub keeps_beside : All KeepsToDemand (observed_in U promises lines)
  keeps_beside = all_seen KeepsToDemand kept
