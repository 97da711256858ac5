-- The outputs that are found in a run are the run's.
use Rattle.std.proofs.Common.{ℕ, zero, suc, ◌+◌, ◌-◌, ◌<◌, ◌≤◌, ◌≡◌, inl, inr, refl, sym, ap, ◌∙◌, subst, arith}
use Rattle.std.proofs.Common.{true, false, List, [], ◌∷◌, length, map, Option, Some, None, Ok, slice_get}
use Rattle.std.proofs.lemmas.Bool.{cases_lt, eq-eqb, eqb-true, true≢false}
use Rattle.std.proofs.lemmas.Option.{none-some}
use Rattle.ceiling_kernel.specs.Readings.{IsFinishAt, AreLongestRuns}
use Rattle.ceiling_kernel.specs.declared.trace.JobRecord.{JobRecord}
use Rattle.ceiling_kernel.specs.declared.trace.Release.{Release}
use Rattle.ceiling_kernel.specs.declared.trace.Slice.{Slice}
use Rattle.ceiling_kernel.specs.declared.trace.Trace.{Trace}
use Rattle.ceiling_kernel.proofs.Common.{Node, Job, job_at, jobs_of, executed_before, picked}
use Rattle.ceiling_kernel.proofs.Common.{Runs, finish_before, record_of, records_from, release_at}
use Rattle.ceiling_kernel.proofs.EndLaws.{some_executes}
use Rattle.ceiling_kernel.proofs.FinishLaws.{done_grows, finish_some, finish_is}
use Rattle.ceiling_kernel.proofs.ReleaseLaws.{job_is, jobs_length}
use Rattle.ceiling_kernel.proofs.SliceLaws.{longest_runs}
use Rattle.chains.specs.Starts.{IsStartAt}
use Rattle.chains.specs.Paths.{last_task}
use Rattle.chains.specs.declared.bounds.Writes.TheVariants.{AtFinish, AtDeadline}
use Rattle.chains.proofs.OrderLaws.{finishes_by}
use Rattle.chain_runs.specs.Slices.{is_finish, slice_by, slice_of}
use Rattle.chain_runs.specs.Outputs.{fresh, along, last_output, outputs_from, with_output}
use Rattle.chain_runs.specs.Runs.{AreOutputs, IsOutput, OutputsAreTheRuns}
use Rattle.chain_runs.specs.declared.slices.TaskSlice.{TaskSlice}
use Rattle.chain_runs.specs.declared.outputs.ChainOutput.{ChainOutput}
use Rattle.chain_runs.specs.declared.outputs.Station.{Station}
use Rattle.chain_runs.proofs.TickLaws.{finish_picked, finish_once, picked_parts}
use Rattle.chain_runs.proofs.PathLaws.{NoneComes, Sampled, sampled_is}
use Rattle.chain_runs.proofs.OutputLaws.{AllAt, Comes, Passed, all_first, passes, tasks_kept}
use Rattle.chain_runs.proofs.DeadlineLaws.{deadlines_law}

-- the record of a job
record_in : (node : Node) (jobs : List Job) (t k : ℕ) (rs : List Release) (j : ℕ) → j < length rs
    → slice_get (records_from node jobs t k rs) j ≡ Some (record_of node jobs t (k + j) (release_at rs j))
record_in node jobs t k [] j lt = absurd (omega arith)
record_in node jobs t k (r ∷ rs) zero lt =
    (let e : k ≡ k + 0 = omega arith in ap (λ n. Some (record_of node jobs t n r)) e)
record_in node jobs t k (r ∷ rs) (suc j) lt =
    let e : k + 1 + j ≡ k + suc j = omega arith in
    record_in node jobs t (k + 1) rs j (omega arith)
    ∙ ap (λ n. Some (record_of node jobs t n (release_at rs j))) e

-- a finish that is at a time is that one
finish_at : (o : Option ℕ) (t : ℕ) → is_finish o t ≡ true → o ≡ Some t
finish_at None t e = absurd (true≢false (sym e))
finish_at (Some f) t e = ap Some (eqb-true f t e)

fresh_tasks : (tasks : List ℕ) → map (λ (st : Station). st.task) (map fresh tasks) ≡ tasks
fresh_tasks [] = refl
fresh_tasks (i ∷ tasks) = ap (λ (x : List ℕ). i ∷ x) (fresh_tasks tasks)

module _ (node : Node) (rs : List Release) (until : ℕ) (trace : Trace)
    (ran : Runs node rs until (Ok trace)) (first : ℕ) (others : List ℕ) where
  abbrev jobs : List Job
  jobs = jobs_of node.tasks rs

  abbrev by_task : Slice → TaskSlice
  by_task s = slice_of node.tasks trace.jobs.items s

  -- ---- a slice of job j
  module _ (s : Slice) (lt : s.job < length jobs) where
    within : s.job < length rs
    within = omega (arith, lt, jobs_length node.tasks rs)

    some : 0 < (job_at jobs s.job).executes
    some = some_executes node rs until s.job ran.0 within

    row : slice_get trace.jobs.items s.job ≡ Some (record_of node jobs until s.job (release_at rs s.job))
    row =
        ap (λ (x : List JobRecord). slice_get x s.job) ran.2.jobs
        ∙ (record_in node jobs until 0 rs s.job within
        ∙ ap (λ n. Some (record_of node jobs until n (release_at rs s.job)))
        (let z : 0 + s.job ≡ s.job = omega arith in z))

    abbrev shown : TaskSlice
    shown = slice_by node.tasks (Some (record_of node jobs until s.job (release_at rs s.job))) s

    as_is : by_task s ≡ shown
    as_is = ap (λ o. slice_by node.tasks o s) row

    owned : shown.task ≡ (job_at jobs s.job).task
    owned = ap (λ (x : Job). x.task) (sym (job_is node.tasks rs s.job within))

    ended : shown.ends ≡ true → IsFinishAt node jobs s.job s.stop
    ended e =
        (finish_is node jobs s.job until s.stop some
        (finish_at (finish_before node jobs until s.job) s.stop e)).1

    opened : s.start < s.stop → s.stop ≤ until
        → ((v : ℕ) → s.start ≤ v → v < s.stop → picked node jobs v ≡ Some s.job)
        → shown.ends ≡ false
        → executed_before node jobs s.stop s.job < (job_at jobs s.job).executes
    opened more le busy e =
        elim (cases_lt (executed_before node jobs s.stop s.job) (job_at jobs s.job).executes) [
          | inl less ↦ less
          | inr done ↦
              let f = finishes_by node jobs s.stop s.job some done in
              let last = picked_parts node jobs (s.stop - 1) s.job (busy (s.stop - 1) (omega arith) (omega arith)) in
              let at : f.0 ≡ s.stop = elim (cases_lt f.0 s.stop) [
                | inr ge ↦ omega (arith, f.1)
                | inl early ↦ absurd (omega (arith, last.2, f.2.after, done_grows node jobs s.job f.0 (s.stop - 1) (omega arith)))
              ] in
              let g = finish_some node jobs s.job until some (omega (arith, done_grows node jobs s.job s.stop until le)) in
              let is = finish_is node jobs s.job until g.0 some g.1 in
              let same : g.0 ≡ s.stop = finish_once node jobs s.job g.0 f.0 is.1 f.2 ∙ at in
              let shut : is_finish (finish_before node jobs until s.job) s.stop ≡ true =
              rw g.1 (eq-eqb g.0 s.stop same) in
              absurd (true≢false (sym shut ∙ e))
        ]

  -- ---- the outputs from a time on
  -- from an earlier time, where none comes between
  earlier : (t u : ℕ) (os : List ChainOutput) → t ≤ u
      → NoneComes AtFinish node jobs (last_task first others) t u
      → AreOutputs AtFinish node jobs first others u until os → AreOutputs AtFinish node jobs first others t until os
  earlier t u [] le none are = λ q g own is by.
      let at = are q g own is by in none q g own is at
  earlier t u (o ∷ os) le none are =
      let k : (k : ℕ) × IsOutput AtFinish node jobs first others u o k = are.2 in (
        omega (arith, are.0),
        are.1,
        (
          k.0,
          record {
            is_job = k.1.is_job;
            own = k.1.own;
            finished = k.1.finished;
            sampled = k.1.sampled;
            next = λ q g own is lo. elim (cases_lt u g) [
              | inl past ↦ k.1.next q g own is past
              | inr low ↦ (let early = none q g own is low in absurd (omega arith))
            ];
          },
        ),
        are.3,
      )

  pub outputs_by : (ss : List Slice) (sts : List Station) (t : ℕ)
      → map (λ (st : Station). st.task) sts ≡ first ∷ others
      → AllAt node jobs (IsStartAt node jobs) t sts → AreLongestRuns (picked node jobs) t until ss
      → AreOutputs AtFinish node jobs first others t until (outputs_from sts (map by_task ss))
  outputs_by [] sts t e at runs = λ q g own is by.
      elim (cases_lt t g) [
        | inr kept ↦ kept
        | inl lo ↦
            let some = is.some in
            absurd (none-some q (sym (runs (g - 1) (omega arith) (omega arith)) ∙ finish_picked node jobs q g is))
      ]
  outputs_by (s ∷ ss) sts t e at runs =
      let lt = (picked_parts node jobs s.start s.job (runs.4 s.start (omega arith) runs.1)).0 in
      let x : TaskSlice = shown s lt in
      let le : t ≤ s.start = runs.0 in
      let some : s.start < s.stop = runs.1 in
      let in_run : s.stop ≤ until = runs.2 in
      let passed : Passed node jobs x t s.job sts first others =
      passes node jobs ran.1 x t s.job le some runs.3 runs.4 (owned s lt) (ended s lt)
      (opened s lt some in_run runs.4) sts first others e at in
      let rest : AreOutputs AtFinish node jobs first others s.stop until
      (outputs_from (along x (Some s.start) sts) (map by_task ss)) =
      outputs_by ss (along x (Some s.start) sts) s.stop (tasks_kept x (Some s.start) sts ∙ e)
      passed.after runs.6 in
      subst (λ y. AreOutputs AtFinish node jobs first others t until (outputs_from sts (y ∷ map by_task ss)))
      (sym (as_is s lt))
      (elim (last_output None x (Some s.start) sts) as (λ o. Comes node jobs x t s.job
      (last_task first others) (Sampled AtFinish node jobs first others (IsStartAt node jobs)) o
      → AreOutputs AtFinish node jobs first others t until (with_output o (outputs_from
      (along x (Some s.start) sts) (map by_task ss)))) [
        | None ↦ λ none. earlier t s.stop (outputs_from (along x (Some s.start) sts) (map by_task ss)) (omega arith) none rest
        | Some o ↦ λ comes. (
          omega (arith, comes.0),
          omega (arith, comes.0),
          (
            s.job,
            record {
              is_job = lt;
              own = comes.1;
              finished = subst (IsFinishAt node jobs s.job) (sym comes.0) comes.2;
              sampled = sampled_is AtFinish node jobs first others s.job o.sample comes.1 comes.3;
              next = λ q g own is lo. elim (cases_lt s.stop g) [
                | inl past ↦ omega (arith, comes.0)
                | inr low ↦ omega (arith, comes.0, passed.early q g is lo low)
              ];
            },
          ),
          subst (λ f. AreOutputs AtFinish node jobs first others f until (outputs_from
              (along x (Some s.start) sts) (map by_task ss))) (sym comes.0) rest,
        )
      ] passed.comes)

pub outputs_law : OutputsAreTheRuns
outputs_law AtFinish node rs until trace first others valid ran =
    let jobs = jobs_of node.tasks rs in
    let longest = subst (AreLongestRuns (picked node jobs) 0 until) (sym ran.2.slices)
    (longest_runs node jobs until) in
    outputs_by node rs until trace ran first others trace.slices.items (map fresh (first ∷ others)) 0
    (fresh_tasks (first ∷ others)) (all_first node jobs (IsStartAt node jobs) (first ∷ others)) longest
outputs_law AtDeadline node rs until trace first others valid ran =
    deadlines_law node rs until trace first others valid ran
