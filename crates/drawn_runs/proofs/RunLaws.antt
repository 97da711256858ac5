-- The jobs of a run in a set's best order: they stand by arrival, and are done by their deadlines.
use Rattle.std.proofs.Common.{◌≡◌, ◌∙◌, ℕ, suc, ◌+◌, ◌-◌, ◌<◌, ◌≤◌, inl, inr, Bool, true, false}
use Rattle.std.proofs.Common.{List, [], ◌∷◌, length, Option, Some, None, Ok, is_some, unwrap_or}
use Rattle.std.proofs.Common.{refl, sym, ap, arith}
use Rattle.std.proofs.lemmas.Bool.{and_from, cases_eq, cases_lt, le-ltb, leb-false, lt-leb, lt-ltb}
use Rattle.std.proofs.lemmas.Bool.{ne_eqb, true≢false}
use Rattle.task_sheet.proofs.Common.{Task, same_bytes, task_at, IsTaskSet, among, greatest_of}
use Rattle.task_sheet.proofs.Common.{all_of}
use Rattle.task_sheet.proofs.IndexLaws.{IsOrderOf-among}
use Rattle.task_sheet.proofs.NameLaws.{same_own}
use Rattle.task_sheet.proofs.TaskLaws.{place_of_name}
use Rattle.assignment.specs.Places.{PlaceData}
use Rattle.assignment.specs.Placings.{tasks_of_places}
use Rattle.explain.specs.Accounts.{AreInTime}
use Rattle.explain.proofs.AccountLaws.{best-in_time}
use Rattle.ceiling_kernel.proofs.Common.{Job, Node, node_in, is_past, jobs_of, no_release, ready_of}
use Rattle.ceiling_kernel.proofs.Common.{release_at, task_named, task_number, Runs, no_record}
use Rattle.ceiling_kernel.proofs.Common.{record_of, records_from}
use Rattle.ceiling_kernel.specs.declared.trace.JobRecord.{JobRecord}
use Rattle.ceiling_kernel.specs.declared.trace.Release.{Release}
use Rattle.ceiling_kernel.specs.declared.trace.Trace.{Trace}
use Rattle.ceiling_kernel.proofs.AcceptLaws.{IsAccepted, accepted, none_passes, sorted_from}
use Rattle.ceiling_kernel.proofs.EndLaws.{records_at}
use Rattle.run_lines.specs.Reached.{done_of, is_done_of, response_of}
use Rattle.run_lines.specs.Responses.{AllDoneWithin, AllReachWithin, DoneWithin}
use Rattle.run_lines.proofs.ResponseLaws.{all_within}
use Rattle.frames.specs.declared.rows.TaskRow.{TaskRow}
use Rattle.frames.specs.PictureRows.{record_at}
use Rattle.drawn_jobs.specs.Misses.{is_behind}
use Rattle.drawn_runs.specs.Late.{IsBestRun}
use Rattle.drawn_runs.specs.Stand.{AreByArrival}
use Rattle.drawn_runs.proofs.ListLaws.{kept_most}

-- ---- the records of a run
records_length : (node : Node) (jobs : List Job) (t k : ℕ) (rs : List Release)
    → length (records_from node jobs t k rs) ≡ length rs
records_length node jobs t k [] = refl
records_length node jobs t k (r ∷ rs) = ap suc (records_length node jobs t (k + 1) rs)

module _ (node : Node) (rs : List Release) (until : ℕ) (trace : Trace)
    (ran : Runs node rs until (Ok trace)) where
  pub jobs_are : length trace.jobs.items ≡ length rs
  jobs_are = ap (λ (x : List JobRecord). length x) ran.2.jobs
      ∙ records_length node (jobs_of node.tasks rs) until 0 rs

  pub job_is : (j : ℕ) → j < length rs
      → record_at trace.jobs.items j
      ≡ record_of node (jobs_of node.tasks rs) until j (release_at rs j)
  job_is j lt =
      let z : 0 + j ≡ j = omega arith in
      ap (λ (x : List JobRecord). record_at x j) ran.2.jobs
      ∙ (records_at node (jobs_of node.tasks rs) until 0 rs j lt
      ∙ ap (λ n. record_of node (jobs_of node.tasks rs) until n (release_at rs j)) z)

  pub is_accepted : IsAccepted node.tasks rs until
  is_accepted = accepted node.tasks rs until ran.0

  -- it arrives before the run ends
  pub arrives : (j : ℕ) → j < length rs → (release_at rs j).time < until
  arrives j lt =
      omega (
        arith,
        leb-false until (ready_of (release_at rs j))
            (none_passes (is_past until) rs j no_release lt is_accepted.before),
      )

  -- jobs stand by arrival
  pub by_arrival : AreByArrival trace.jobs.items
  by_arrival i j le lt =
      let inside : j < length rs = omega (arith, lt, jobs_are) in
      let first = ap (λ (x : JobRecord). x.release) (job_is i (omega (arith, le, inside))) in
      let last = ap (λ (x : JobRecord). x.release) (job_is j inside) in
      omega (arith, first, last, sorted_from rs is_accepted.sorted i j le inside)

-- ---- what the analysis says of a task
-- in a run it is kept: a job is done within a response, which is within the deadline
record IsKept (U : List Task) (rs : List Release) (until : ℕ) (trace : Trace) (i : ℕ) : Type 0 where
  place : PlaceData
  task : place.task ≡ i
  done : DoneWithin U place rs until trace
  reached : greatest_of response_of (done_of (task_at U place.task).name trace.jobs.items)
      ≤ place.response
  in_time : place.response ≤ (task_at U place.task).deadline

kept_in : (U : List Task) (rs : List Release) (until : ℕ) (trace : Trace) (i : ℕ)
    (places : List PlaceData)
    → AllDoneWithin U places rs until trace → AllReachWithin U trace.jobs.items places
    → AreInTime U places
    → among (tasks_of_places places) i ≡ true → IsKept U rs until trace i
kept_in U rs until trace i [] done reached in_time has = absurd (true≢false (sym has))
kept_in U rs until trace i (p ∷ places) done reached in_time has =
    elim (cases_eq p.task i) [
      | inl same ↦ record {
        place = p;
        task = same;
        done = done.0;
        reached = reached.0;
        in_time =
            in_time.0.in_time;
      }
      | inr ne ↦
          let rest : among (tasks_of_places places) i ≡ true = rw (ne_eqb p.task i ne) at has in
          kept_in U rs until trace i places done.1 reached.1 in_time.1 rest
    ]

-- the task of a release that has the name of a task is that one
numbered : (U : List Task) → IsTaskSet U → (i : ℕ) → i < length U → (r : Release)
    → r.name ≡ (task_at U i).name → task_number U r ≡ i
numbered U set i lt r own =
    let found : task_named U (task_at U i).name ≡ Some i =
    rw (place_of_name U set.distinct i lt, lt-ltb i (length U) lt) refl in
    ap (λ (name : List ℕ). unwrap_or (task_named U name) (length U)) own
    ∙ ap (λ o. unwrap_or o (length U)) found

-- ---- a run in a set's best order
module _ {U : List Task} {places : List PlaceData} {rs : List Release} {until : ℕ} {trace : Trace}
    {rows : List TaskRow} (run : IsBestRun U places rs until trace rows) where
  abbrev node : Node
  node = node_in U (tasks_of_places places)

  pub long : length trace.jobs.items ≡ length rs
  long = jobs_are node rs until trace run.runs

  pub arrives_in : (j : ℕ) → j < length rs → (release_at rs j).time < until
  arrives_in = arrives node rs until trace run.runs

  kept : (i : ℕ) → i < length U → IsKept U rs until trace i
  kept i lt =
      let both = all_within U places rs until trace run.set run.best run.runs in
      let each =
      IsOrderOf-among (all_of U) (tasks_of_places places) run.best.best.passing.each_once in
      kept_in U rs until trace i places both.0 both.1 (best-in_time U places run.set run.best)
      (ap (λ (H : ℕ → Bool). H i) each ∙ (lt-ltb i (length U) lt))

  -- no job of a task is late
  pub not_late : (i j end : ℕ) → i < length U → j < length rs → end ≤ until
      → (task_at U i).name ≡ (record_at trace.jobs.items j).name
      → is_behind (record_at trace.jobs.items j).release (task_at U i).deadline end
      (record_at trace.jobs.items j).finish ≡ false
  not_late i j end is_task is_job upto own =
      let it : JobRecord = record_at trace.jobs.items j in
      let k = kept i is_task in
      let is_it = job_is node rs until trace run.runs j is_job in
      let time = ap (λ (x : JobRecord). x.release) is_it in
      let name = ap (λ (x : JobRecord). x.name) is_it in
      let number = numbered U run.set i is_task (release_at rs j) (sym name ∙ sym own)
      ∙ sym k.task in
      let deadline = ap (λ x. (task_at U x).deadline) k.task in
      let called = ap (λ x. (task_at U x).name) k.task ∙ own in
      let in_time = k.in_time in
      elim it.finish as (λ o. it.finish ≡ o
      → is_behind it.release (task_at U i).deadline end o ≡ false) [
        | None ↦ λ is. elim (cases_lt until ((release_at rs j).time + k.place.response)) [
          | inl past ↦ lt-leb (task_at U i).deadline (end - it.release)
              (omega (arith, past, time, deadline, in_time, arrives_in j is_job, upto))
          | inr in_run ↦
              let found = k.done j is_job number in_run in
              let both : ◌≡◌ {A = Option ℕ} (Some found.0) None = sym found.1 ∙ is in
              absurd (cc)
        ]
        | Some f ↦ λ is.
            let done : is_some it.finish ≡ true = rw is refl in
            let same = ap (λ (n : List ℕ). same_bytes it.name n) called ∙ same_own it.name in
            let counts = and_from (is_some it.finish) (same_bytes it.name
            (task_at U k.place.task).name) done same in
            let most = kept_most response_of (is_done_of (task_at U k.place.task).name)
            trace.jobs.items j no_record (omega (arith, is_job, long)) counts in
            let response = ap (λ o. unwrap_or o 0 - it.release) is in
            let within = k.reached in
            le-ltb (task_at U i).deadline (f - it.release)
            (omega (arith, most, response, within, deadline, in_time))
      ] refl
