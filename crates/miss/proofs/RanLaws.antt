-- What comes of running the worst case of a task.
use Rattle.std.proofs.Common.{◌≡◌, ℕ, ◌+◌, ◌-◌, ◌<◌, ◌≤◌, inl, inr, Some, None, Option, Err}
use Rattle.std.proofs.Common.{Ok, List, length, get_or, refl, sym, ◌∙◌, ap, subst, is_some}
use Rattle.std.proofs.Common.{true, false, arith}
use Rattle.std.proofs.lemmas.Option.{none-some}
use Rattle.std.proofs.lemmas.Bool.{cases_eq, cases_lt, true≢false}
use Rattle.task_sheet.specs.Sheet.{task_at}
use Rattle.ceiling_kernel.specs.declared.trace.Release.{Release}
use Rattle.ceiling_kernel.specs.declared.trace.JobRecord.{JobRecord}
use Rattle.ceiling_kernel.specs.declared.trace.Trace.{Trace}
use Rattle.ceiling_kernel.specs.declared.trace.RunFault.{RunFault}
use Rattle.ceiling_kernel.specs.declared.trace.RunFault.TheVariants as fault
use Rattle.ceiling_kernel.proofs.Common.{Node, Job, job_at, executed_before, finish_before, IsNode}
use Rattle.ceiling_kernel.proofs.Common.{above_of, after_of, CoversBy, task_number, jobs_of}
use Rattle.ceiling_kernel.proofs.Common.{release_at, ready_of, refusal_of, no_record}
use Rattle.ceiling_kernel.proofs.Common.{Runs}
use Rattle.ceiling_kernel.specs.Readings.{IsFinishAt}
use Rattle.ceiling_kernel.proofs.ReleaseLaws.{read_at, job_is, jobs_length, records_length}
use Rattle.ceiling_kernel.proofs.EndLaws.{some_executes, records_at}
use Rattle.ceiling_kernel.proofs.FinishLaws.{done_grows, finish_none, finish_some, finish_is}
use Rattle.ceiling_kernel.proofs.FinishLaws.{unfinished_is}
use Rattle.miss.specs.declared.reaching.WorstRun.{WorstRun}
use Rattle.miss.specs.Exact.{EndsLow}
use Rattle.miss.specs.Misses.{IsRunOf, IsMissOf, IsWorstCase, MustMiss}
use Rattle.miss.specs.Shown.{AboveAllPass, IsStopped, IsDoneInTime, ShowsNone}
use Rattle.miss.specs.Reached.{IsLeastCover, IsFinishIn, IsWorstRun}
use Rattle.miss.proofs.CompleteLaws.{CaseFacts, case_law}

-- a trace has a record of each release
pub trace_length : (node : Node) (rs : List Release) (until : ℕ) (trace : Trace)
    → Runs node rs until (Ok trace) → length trace.jobs.items ≡ length rs
trace_length node rs until trace ran =
    ap length ran.2.jobs ∙ records_length node (jobs_of node.tasks rs) until 0 rs

-- what holds of each below k and of k
pub each_more : (P : ℕ → Type 0) (k : ℕ) → ((j : ℕ) → j < k → P j) → P k → (j : ℕ) → j < k + 1 → P j
each_more P k before here j lt = elim (cases_eq j k) [
  | inl same ↦ subst P (sym same) here
  | inr other ↦ before j (omega arith)
]

module _ (node : Node) (jobs : List Job) (j : ℕ) where
  finish_once : (f g : ℕ) → IsFinishAt node jobs j f → IsFinishAt node jobs j g → f ≡ g
  finish_once f g first second =
      elim (cases_eq f g) [
        | inl same ↦ same
        | inr other ↦ absurd (elim (cases_lt f g) [
          | inl less ↦ omega (
            arith,
            first.after,
            second.before,
            done_grows node jobs j f (g - 1)
                (omega arith),
          )
          | inr more ↦ omega (
            arith,
            second.after,
            first.before,
            done_grows node jobs j g (f - 1)
                (omega arith),
          )
        ])
      ]

none_of : (o : Option ℕ) → is_some o ≡ false → o ≡ None
none_of None none = refl
none_of (Some x) none = absurd (true≢false none)

-- ---- the worst case
module _ (node : Node) (ok : IsNode node) (i : ℕ) (lt : i < length node.tasks) where
  module _ (rs : List Release) (until : ℕ) (case : IsWorstCase node.tasks i (after_of node.order i)
      rs until) (few : length rs ≤ 10000) where
    abbrev jobs : List Job
    jobs = jobs_of node.tasks rs

    facts : CaseFacts node i rs until
    facts = case_law node ok i rs until lt case few

    refused : (e : RunFault) → refusal_of node.tasks rs until ≡ Some e
        → (AboveAllPass node i → ⊥) × IsStopped node i
    refused e ran = absurd (none-some e (sym facts.accepted ∙ ran))

    -- where it isn't run to its end it is stopped
    pub stopped : (e : RunFault) → (e ≡ fault.OutOfMemory → ⊥) → Runs node rs until (Err e)
        → (AboveAllPass node i → ⊥) × IsStopped node i
    stopped fault.OutOfMemory ne ran = absurd (ne refl)
    stopped (fault.Overrun name time) ne ran =
        let o = ran.1 in
        let f = o.first in
        let small : o.place < length rs = omega (arith, f.is_job, jobs_length node.tasks rs) in
        let task = ap (λ (x : Job). x.task) (job_is node.tasks rs o.place small) in (
          λ pass. facts.no_overrun pass o.place f.is_job f.overruns,
          record {
            releases = rs;
            until = until;
            case = case;
            few = few;
            place = o.place;
            is_job = small;
            above = subst (λ x. above_of node i x ≡ true) task
                (facts.overrun_above o.place f.is_job f.overruns);
            overruns = f.overruns;
          },
        )
    stopped (fault.Unsorted k) ne ran = refused (fault.Unsorted k) ran
    stopped (fault.UnknownTask k) ne ran = refused (fault.UnknownTask k) ran
    stopped (fault.TooSoon k) ne ran = refused (fault.TooSoon k) ran
    stopped (fault.TooLate k) ne ran = refused (fault.TooLate k) ran
    stopped (fault.OutsideCost k) ne ran = refused (fault.OutsideCost k) ran
    stopped fault.PastHorizon ne ran = refused fault.PastHorizon ran
    stopped fault.TooMany ne ran = refused fault.TooMany ran

    -- where it is run, a job of the task is found
    pub has_job : ((j : ℕ) → j < length rs → task_number node.tasks (release_at rs j) ≡ i → ⊥) → ⊥
    has_job none = none facts.job facts.is_job facts.of_task

    -- and its finish is read
    pub ran : (trace : Trace) → Runs node rs until (Ok trace) → (j : ℕ) (job : JobRecord)
        → (j < length rs) × (task_number node.tasks (release_at rs j) ≡ i)
        → job ≡ get_or trace.jobs.items j job
        → IsFinishIn node rs until i j job.finish
        × (AboveAllPass node i → EndsLow node i → (r : ℕ) → IsLeastCover node i r
        → job.finish ≡ Some (ready_of (release_at rs j) + r))
    ran trace run j job found read =
        let small : j < length trace.jobs.items =
        omega (arith, found.0, trace_length node rs until trace run) in
        let z : 0 + j ≡ j = omega arith in
        let finish = ap (λ (x : JobRecord). x.finish) (sym (read_at trace.jobs.items j job no_record
        small read)
        ∙ (ap (λ (x : List JobRecord). get_or x j no_record) run.2.jobs
        ∙ records_at node jobs until 0 rs j found.0))
        ∙ ap (λ n. finish_before node jobs until n) z in
        let run_of : IsRunOf node rs until i j = record {
          accepted = run.0;
          no_overrun = run.1;
          is_job = found.0;
          of_task = found.1;
        } in (
          record { ran = run_of; finish_is = finish },
          λ pass low r least.
              let one = sym (facts.only j found.0 found.1) in
              let f = subst (λ k. IsFinishAt node jobs k (ready_of (release_at rs k) + r)) one
              (facts.reaches low r least) in
              let covers : CoversBy node i r = least.covers in
              let end = ap (λ k. ready_of (release_at rs k)) one in
              let some = some_executes node rs until j facts.accepted found.0 in
              let g = finish_some node jobs j until some
              (omega (
                arith,
                f.after,
                done_grows node jobs j (ready_of (release_at rs j) + r) until
                    (omega (arith, facts.ready, end, covers.in_time)),
              )) in
              finish ∙ (g.1 ∙ ap Some (finish_once node jobs j g.0
              (ready_of (release_at rs j) + r) (finish_is node jobs j until g.0 some g.1).1 f)),
        )

  -- what a run shows
  module _ (run : WorstRun) (is : IsWorstRun node i run) where
    facts_of : CaseFacts node i run.releases.items run.until
    facts_of = case_law node ok i run.releases.items run.until lt is.case is.few

    due : (release_at run.releases.items run.job).time + (task_at node.tasks i).deadline
        ≡ run.until
    due = (let f = is.finish in
        let one = facts_of.only run.job f.ran.is_job f.ran.of_task in
        subst (λ k. (release_at run.releases.items k).time + (task_at node.tasks i).deadline
        ≡ run.until) (sym one) facts_of.due)

    pub is_miss : is_some run.finish ≡ false
        → IsMissOf node run.releases.items run.until i run.job
    is_miss open_ =
        let f = is.finish in
        record {
          accepted = f.ran.accepted;
          no_overrun = f.ran.no_overrun;
          is_job = f.ran.is_job;
          of_task = f.ran.of_task;
          due = due;
          late = unfinished_is node (jobs_of node.tasks run.releases.items) run.job run.until
              (some_executes node run.releases.items run.until run.job f.ran.accepted f.ran.is_job)
              (sym f.finish_is ∙ none_of run.finish open_);
        }

    pub is_done : is_some run.finish ≡ true → IsDoneInTime node i
    is_done some =
        let f = is.finish in
        let list : List Job = jobs_of node.tasks run.releases.items in
        record {
          releases = run.releases.items;
          until = run.until;
          case = is.case;
          few = is.few;
          job = run.job;
          ran = f.ran;
          due = due;
          done = elim (cases_lt (executed_before node list run.until run.job)
              (job_at list run.job).executes) [
                | inl late ↦ absurd (true≢false (sym some ∙ ap is_some
                    (f.finish_is ∙ finish_none node list run.job run.until late)))
                | inr done ↦ done
              ];
        }

  -- below tasks that pass it isn't stopped
  pub done_below : AboveAllPass node i → ShowsNone node i → IsDoneInTime node i
  done_below pass (inr done) = done
  done_below pass (inl s) =
      let f = case_law node ok i s.releases s.until lt s.case s.few in
      absurd (f.no_overrun pass s.place
      (omega (arith, s.is_job, jobs_length node.tasks s.releases)) s.overruns)

  -- one whose worst case shows no miss need not miss
  pub need_not : ShowsNone node i → MustMiss node i → ⊥
  need_not none must =
      let d = done_below must.above_pass none in
      let f = case_law node ok i d.releases d.until lt d.case d.few in
      let one = f.only d.job d.ran.is_job d.ran.of_task in
      let late = subst (λ k. executed_before node (jobs_of node.tasks d.releases) d.until k
      < (job_at (jobs_of node.tasks d.releases) k).executes) (sym one) (f.late must) in
      omega (arith, late, d.done)
