-- What the lines of a run say can be spelled, and stands in order.
use Rattle.std.proofs.Common.{◌≡◌, ◌∙◌, ◌+◌, ◌<◌, ◌≤◌, ◌^◌, ◌⊎◌, ℕ, zero, suc, Bool}
use Rattle.std.proofs.Common.{List, [], ◌∷◌, ◌++◌, map, length, Option, Some, None, Result}
use Rattle.std.proofs.Common.{Ok, IfSome, inl, inr, refl, sym, ap, subst, arith, cond}
use Rattle.std.specs.List.{AllByRecursion}
use Rattle.std.proofs.lemmas.Bool.{cases_cond, cases_eq, cases_lt, le-ltb, leb-false, lt-ltb}
use Rattle.std.proofs.lemmas.Option.{none-some}
use Rattle.std.proofs.lemmas.Slice.Eq.{bytes_eq-Decides}
use Rattle.task_sheet.proofs.Common.{IsName, Task, task_at, IsTaskSet}
use Rattle.task_sheet.proofs.TaskLaws.{valid_at}
use Rattle.ceiling_kernel.proofs.Common.{Job, Node, executed_before, job_at, node_in, picked}
use Rattle.ceiling_kernel.proofs.Common.{finish_before, AreLongestRuns, is_past, jobs_of}
use Rattle.ceiling_kernel.proofs.Common.{no_release, ready_of, release_at, task_number, Runs}
use Rattle.ceiling_kernel.proofs.Common.{record_of, records_from}
use Rattle.ceiling_kernel.specs.declared.trace.JobRecord.{JobRecord}
use Rattle.ceiling_kernel.specs.declared.trace.Release.{Release}
use Rattle.ceiling_kernel.specs.declared.trace.RunFault.TheVariants as fault
use Rattle.ceiling_kernel.specs.declared.trace.Slice.{Slice}
use Rattle.ceiling_kernel.specs.declared.trace.Trace.{Trace}
use Rattle.ceiling_kernel.proofs.AcceptLaws.{IsAccepted, accepted, known_from, none_passes}
use Rattle.ceiling_kernel.proofs.AcceptLaws.{sorted_from}
use Rattle.ceiling_kernel.proofs.EndLaws.{records_at, some_executes}
use Rattle.ceiling_kernel.proofs.FinishLaws.{finish_is}
use Rattle.ceiling_kernel.proofs.MachineLaws.{idle_of, other_of, pending_parts, picked_is, start_of}
use Rattle.ceiling_kernel.proofs.ReleaseLaws.{job_is, jobs_length}
use Rattle.ceiling_kernel.proofs.SliceLaws.{longest_runs}
use Rattle.lines.specs.Steps.{ahead}
use Rattle.trace_text.specs.TraceFaults.{IsTraceIn, are_too_many, overlap_from, trace_fault, rows_fault}
use Rattle.trace_text.specs.TraceFaults.{unsorted_from}
use Rattle.trace_text.specs.TraceLines.{rows_in}
use Rattle.trace_text.specs.TraceLines as rows
use Rattle.trace_text.specs.declared.fault.TraceFault.TheVariants as trace_fault_is
use Rattle.trace_text.specs.declared.reading.TraceLines.{TraceLines}
use Rattle.trace_text.specs.declared.rows.TraceJob.{TraceJob}
use Rattle.trace_text.specs.declared.rows.TraceRow.{TraceRow}
use Rattle.trace_text.specs.declared.rows.TraceRow.TheVariants as row
use Rattle.trace_text.specs.declared.rows.TraceSlice.{TraceSlice}
use Rattle.kept_promises.specs.PrintedRuns.{Say, jobs_from, slices_from}
use Rattle.kept_promises.proofs.SeenLaws.{named}
use Rattle.printed_runs.specs.RunRows.{rows_of}
use Rattle.printed_runs.specs.TraceLines.{job_lines, trace_lines}
use Rattle.printed_runs.proofs.LineLaws.{IsJobLine, IsSliceLine, jobs_again, slices_again}

-- ---- rows
slices_behind : (js : List TraceJob) → rows.slices_of (map row.Job js) ≡ []
slices_behind [] = refl
slices_behind (j ∷ js) = slices_behind js

slices_said : (ss : List TraceSlice) (js : List TraceJob)
    → rows.slices_of (map row.Slice ss ++ map row.Job js) ≡ ss
slices_said [] js = slices_behind js
slices_said (s ∷ ss) js = ap (λ (l : List TraceSlice). s ∷ l) (slices_said ss js)

jobs_behind : (js : List TraceJob) → rows.jobs_of (map row.Job js) ≡ js
jobs_behind [] = refl
jobs_behind (j ∷ js) = ap (λ (l : List TraceJob). j ∷ l) (jobs_behind js)

jobs_said : (ss : List TraceSlice) (js : List TraceJob)
    → rows.jobs_of (map row.Slice ss ++ map row.Job js) ≡ js
jobs_said [] js = jobs_behind js
jobs_said (s ∷ ss) js = jobs_said ss js

-- ---- the order of what is said
-- no slice begins before the end of the one before it
apart : (run : ℕ → Option ℕ) (until : ℕ) (records : List JobRecord) (line from : ℕ)
    (ss : List Slice) → AreLongestRuns run from until ss
    → overlap_from from (slices_from records line ss) ≡ None
apart run until records line from [] h = refl
apart run until records line from (s ∷ ss) h =
    rw (le-ltb s.start from h.0) (apart run until records (line + 1) s.stop ss h.6)

-- no job arrives before the one before it
rising : (node : Node) (jobs : List Job) (until line k earliest : ℕ) (rs : List Release)
    → ((j : ℕ) → j < length rs → earliest ≤ (release_at rs j).time)
    → ((i j : ℕ) → i ≤ j → j < length rs → (release_at rs i).time ≤ (release_at rs j).time)
    → unsorted_from earliest (jobs_from line (records_from node jobs until k rs)) ≡ None
rising node jobs until line k earliest [] from sorted = refl
rising node jobs until line k earliest (r ∷ rs) from sorted =
    rw (le-ltb r.time earliest (from 0 (omega arith))) (rising node jobs until (line + 1) (k + 1)
    r.time rs
    (λ j lt. sorted 0 (suc j) (omega arith) (omega (arith, lt)))
    (λ i j le lt. sorted (suc i) (suc j) (omega (arith, le)) (omega (arith, lt))))

module _ (U : List Task) (order : List ℕ) (rs : List Release) (until : ℕ) (trace : Trace)
    (set : IsTaskSet U) (ran : Runs (node_in U order) rs until (Ok trace)) where
  abbrev node : Node
  node = node_in U order

  abbrev jobs : List Job
  jobs = jobs_of U rs

  abbrev records : List JobRecord
  records = records_from node jobs until 0 rs

  is_accepted : IsAccepted U rs until
  is_accepted = accepted U rs until ran.0

  until_short : until ≤ 60000000
  until_short = elim (cases_lt 60000000 until) [
    | inl past ↦ absurd (none-some fault.PastHorizon (sym (rw (
      is_accepted.sorted,
      is_accepted.known,
      is_accepted.spaced,
      is_accepted.prompt,
      is_accepted.in_cost,
      lt-ltb 60000000 until past,
    ) at ran.0)))
    | inr within ↦ within
  ]

  -- ---- a job
  ready_in : (j : ℕ) → j < length rs → ready_of (release_at rs j) < until
  ready_in j lt =
      leb-false until (ready_of (release_at rs j))
      (none_passes (is_past until) rs j no_release lt is_accepted.before)

  -- a job that has executed was ready
  began : (t j : ℕ) → 0 < executed_before node jobs t j → (job_at jobs j).ready ≤ t
  began zero j some = absurd (omega (arith, some, start_of node jobs j))
  began (suc t) j some =
      elim (picked node jobs t) as (λ o. picked node jobs t ≡ o → (job_at jobs j).ready ≤ suc t) [
        | None ↦ λ e. omega (arith, began t j (omega (arith, some, idle_of node jobs t j e)))
        | Some p ↦ λ e. elim (cases_eq j p) [
          | inl same ↦ (let is = picked_is node jobs t j (e ∙ ap Some (sym same)) in
              omega (arith, (pending_parts node jobs t j is.is_pending).0))
          | inr ne ↦ omega (arith, began t j (omega (arith, some, other_of node jobs t p j e ne)))
        ]
      ] refl

  finishes : (j : ℕ) → j < length rs
      → IfSome (finish_before node jobs until j) (λ f. ((release_at rs j).time ≤ f) × (f < 10 ^ 10))
  finishes j lt =
      elim (finish_before node jobs until j) as (λ o. finish_before node jobs until j ≡ o
      → IfSome o (λ f. ((release_at rs j).time ≤ f) × (f < 10 ^ 10))) [
        | None ↦ λ _. tt
        | Some f ↦ λ is.
            let some = some_executes node rs until j ran.0 lt in
            let ends = finish_is node jobs j until f some is in (
              omega (
                arith,
                began f j (omega (arith, some, ends.1.after)),
                ap (λ (x : Job). x.ready) (job_is U rs j lt),
              ),
              omega (arith, ends.0, until_short),
            )
      ] refl

  has_name : (j : ℕ) → j < length rs → IsName (release_at rs j).name
  has_name j lt =
      let k : ℕ = task_number U (release_at rs j) in
      let inside : k < length U = known_from U rs is_accepted.known j lt in
      let same : (task_at U k).name ≡ (release_at rs j).name =
      (bytes_eq-Decides (task_at U k).name (release_at rs j).name).0
      (named U (release_at rs j).name k inside refl) in
      subst (λ (name : List ℕ). IsName name) same (valid_at U k set inside).named

  job_line : (j : ℕ) → j < length rs → IsJobLine (record_of node jobs until j (release_at rs j))
  job_line j lt = record {
    named = has_name j lt;
    arrives =
        omega (arith, ready_in j lt, until_short);
    finishes = finishes j lt;
  }

  -- ---- all of them
  each_record : (k : ℕ) (more : List Release) → ((j : ℕ) → j < length more
      → IsJobLine (record_of node jobs until (k + j) (release_at more j)))
      → AllByRecursion IsJobLine (records_from node jobs until k more)
  each_record k [] each = tt
  each_record k (r ∷ more) each = (
    (let z : k + 0 ≡ k = omega arith in rw z at (each 0 (omega arith))),
    each_record (k + 1) more (λ j lt. (let e : k + suc j ≡ k + 1 + j = omega arith in
        rw e at (each (suc j) (omega (arith, lt))))),
  )

  each_job : AllByRecursion IsJobLine records
  each_job = each_record 0 rs
      (λ j lt. (let e : 0 + j ≡ j = omega arith in rw e (job_line j lt)))

  each_slice : (from : ℕ) (ss : List Slice) → AreLongestRuns (picked node jobs) from until ss
      → AllByRecursion (λ s. IsSliceLine records s) ss
  each_slice from [] h = tt
  each_slice from (s ∷ ss) h =
      let is = picked_is node jobs s.start s.job (h.4 s.start (omega arith) h.1) in
      let lt : s.job < length rs = omega (arith, is.below, jobs_length U rs) in
      let row_is = records_at node jobs until 0 rs s.job lt in (
        record {
          lasts = h.1;
          short = omega (arith, h.2, until_short);
          named = subst (λ (name : List ℕ). IsName name)
              (sym (ap (λ (x : JobRecord). x.name) row_is)) (has_name s.job lt);
        },
        each_slice s.stop ss h.6,
      )

  are_longest : AreLongestRuns (picked node jobs) 0 until trace.slices.items
  are_longest = subst (AreLongestRuns (picked node jobs) 0 until) (sym ran.2.slices)
      (longest_runs node jobs until)

  slices_spelled : AllByRecursion (λ s. IsSliceLine trace.jobs.items s) trace.slices.items
  slices_spelled = subst (λ (js : List JobRecord). AllByRecursion (λ s. IsSliceLine js s)
      trace.slices.items) (sym ran.2.jobs) (each_slice 0 trace.slices.items are_longest)

  jobs_spelled : AllByRecursion IsJobLine trace.jobs.items
  jobs_spelled = subst (AllByRecursion IsJobLine) (sym ran.2.jobs) each_job

  -- ---- read back
  pub read_back : rows_in (trace_lines trace) ≡ Ok (rows_of trace)
  read_back =
      slices_again trace.jobs.items trace.slices.items 1 (job_lines trace.jobs.items) slices_spelled
      ∙ ap (ahead (map row.Slice (slices_from trace.jobs.items 1 trace.slices.items)))
      (jobs_again trace.jobs.items (1 + length trace.slices.items) jobs_spelled)

  abbrev said_slices : List TraceSlice
  said_slices = slices_from trace.jobs.items 1 trace.slices.items

  abbrev said_jobs : List TraceJob
  said_jobs = jobs_from (1 + length trace.slices.items) trace.jobs.items

  -- the text is refused only for want of room
  pub in_order : (trace_fault (trace_lines trace) ≡ None)
      ⊎ (trace_fault (trace_lines trace) ≡ Some trace_fault_is.TooManyLines)
  in_order =
      let disjoint : overlap_from 0 said_slices ≡ None =
      apart (picked node jobs) until trace.jobs.items 1 0 trace.slices.items are_longest in
      let sorted : unsorted_from 0 said_jobs ≡ None = subst (λ (js : List JobRecord). unsorted_from
      0 (jobs_from (1 + length trace.slices.items) js) ≡ None) (sym ran.2.jobs)
      (rising node jobs until (1 + length trace.slices.items) 0 0 rs (λ j lt. omega arith)
      (sorted_from rs is_accepted.sorted)) in
      let many : Bool = are_too_many said_slices said_jobs in
      let said : trace_fault (trace_lines trace)
      ≡ cond many (Some trace_fault_is.TooManyLines) None = ap rows_fault read_back ∙ rw (
        slices_said said_slices said_jobs,
        jobs_said said_slices said_jobs,
        disjoint,
        sorted,
      ) in
      elim (cases_cond many (Some trace_fault_is.TooManyLines) None
      (trace_fault (trace_lines trace)) said) [ inl many ↦ inr many | inr none ↦ inl none ]

  -- and what it is read as says the trace
  pub says : (lines : TraceLines) → IsTraceIn (trace_lines trace) lines → Say 1 lines trace
  says lines is =
      let both : ◌≡◌ {A = Result (List TraceRow) ℕ} (Ok is.rows) (Ok (rows_of trace)) = sym is.read
      ∙ read_back in
      let same : is.rows ≡ rows_of trace = cc (both) in
      record {
        slices = is.slices ∙ ap rows.slices_of same ∙ slices_said said_slices said_jobs;
        jobs = is.jobs ∙ ap rows.jobs_of same ∙ jobs_said said_slices said_jobs;
      }
