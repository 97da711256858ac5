-- A simulated run is one beside timers and interrupts of which none come.
use Rattle.std.proofs.Common.{ℕ, suc, ◌+◌, ◌-◌, ◌<◌, ◌≡◌, inr, refl, sym, ap, ◌∙◌, subst, arith}
use Rattle.std.proofs.Common.{List, [], ◌∷◌, length, Option, Some, None}
use Rattle.task_sheet.specs.Indexes.{sum_below}
use Rattle.task_sheet.proofs.Common.{Task, task_at}
use Rattle.assignment.specs.Places.{PlaceData}
use Rattle.assignment.specs.Placings.{tasks_of_places}
use Rattle.ceiling_kernel.specs.Tick.{pick}
unfoldable use Rattle.ceiling_kernel.specs.Tick.{picked}
use Rattle.ceiling_kernel.proofs.Common.{Job, Node, executed_before, finish_before, node_in}
use Rattle.ceiling_kernel.proofs.Common.{AreLongestRuns, jobs_of, record_of, records_from, release_at}
use Rattle.ceiling_kernel.specs.Trace.{slices_of}
use Rattle.ceiling_kernel.specs.declared.trace.Release.{Release}
use Rattle.ceiling_kernel.specs.declared.trace.Slice.{Slice}
use Rattle.ceiling_kernel.proofs.FinishLaws.{finish_is, unfinished_is}
use Rattle.ceiling_kernel.proofs.SliceLaws.{longest_runs}
use Rattle.ceiling_kernel.proofs.SumLaws.{total-sum, total-zero}
use Rattle.interrupted_runs.specs.Interrupted.{ComeWithin, executed_beside}
use Rattle.interrupted_runs.specs.Seen.{IsSeen}
use Rattle.interrupted_runs.proofs.LateLaws.{as_ruled}
use Rattle.trace_text.specs.declared.reading.TraceLines.{TraceLines}
use Rattle.trace_text.specs.declared.rows.TraceJob.{TraceJob}
use Rattle.trace_text.specs.declared.rows.TraceSlice.{TraceSlice}
use Rattle.kept_promises.specs.OfRuns.{AreOfRun}
use Rattle.kept_promises.specs.PrintedRuns.{job_row, jobs_from, slices_from}
use Rattle.kept_promises.proofs.SeenLaws.{arrival_is, jobs_are, jobs_said, later, legal, name_is, ready_in}
use Rattle.kept_promises.proofs.SeenLaws.{rows_are, slice_name, some, task_is, tick_is}
use Rattle.kept_promises.proofs.TickLaws.{IsRunSlice}
use Rattle.kept_beside.specs.ShownSlices.{AreShown, ShowTicks}
use Rattle.kept_beside.specs.ShownJobs.{AreJobLines, IsFinish, IsJobLine}
use Rattle.kept_beside.specs.Beside.{AreBeside, Rise}

-- nothing comes
abbrev none_comes : ℕ → ℕ
none_comes t = 0

module _ {U : List Task} {places : List PlaceData} {lines : TraceLines} (run : AreOfRun U places lines)
    (numbers : List ℕ) (rise : Rise numbers places) where
  abbrev rs : List Release
  rs = run.releases

  abbrev until : ℕ
  until = run.until

  abbrev node : Node
  node = node_in U (tasks_of_places places)

  abbrev jobs : List Job
  jobs = jobs_of U rs

  abbrev shown : ℕ → Option ℕ
  shown = picked node jobs

  -- what is executed is what the tick rule says
  same_at : (t : ℕ) → executed_beside none_comes node jobs t ≡ executed_before node jobs t
  same_at t = as_ruled node jobs t

  same_of : (t j : ℕ) → executed_beside none_comes node jobs t j ≡ executed_before node jobs t j
  same_of t j = ap (λ (f : ℕ → ℕ). f j) (same_at t)

  counted : ComeWithin none_comes node
  counted a t some_ =
      let none : sum_below t (λ s. 0) ≡ 0 =
      sym (total-sum (λ s. 0) t) ∙ total-zero (λ s. 0) t (λ _ _. refl) in
      omega (arith, none)

  ruled : IsSeen none_comes node jobs shown
  unfolding picked
  ruled t free = ap (λ (f : ℕ → ℕ). pick node jobs f t) (sym (same_at t))

  are_shown : AreShown none_comes node jobs shown
  are_shown = record {
    ruled = ruled;
    there = λ t p is.
        let own = tick_is run numbers t p is in
        record {
          is_job = omega (arith, own.0, jobs_are run numbers);
          ready = own.1;
          lacks = omega (arith, own.2, same_of t p);
        };
  }

  -- ---- its slices
  ticks : (line from : ℕ) (ss : List Slice) → AreLongestRuns shown from until ss
      → ShowTicks none_comes node numbers jobs shown from until
      (slices_from (records_from node jobs until 0 rs) line ss)
  ticks line from [] h = h
  ticks line from (s ∷ ss) h =
      let slice : IsRunSlice shown until s = record { lasts = h.1; in_run = h.2; own = h.4 } in
      let own = tick_is run numbers s.start s.job (h.4 s.start (omega arith) h.1) in
      let name = slice_name run numbers line s slice ∙ sym (name_is run numbers s.job own.0)
      ∙ ap (λ k. (task_at U k).name) (sym (task_is run numbers s.job own.0)) in (
        h.0,
        h.1,
        h.2,
        h.3,
        inr (s.job, record { name = name; all = h.4; priority = tt }),
        ticks (line + 1) s.stop ss h.6,
      )

  -- ---- its jobs
  finish_said : (j : ℕ) → j < length rs → IsFinish none_comes node jobs until j (finish_before node jobs until j)
  finish_said j lt =
      elim (finish_before node jobs until j) as (λ o. finish_before node jobs until j ≡ o
      → IsFinish none_comes node jobs until j o) [
        | None ↦ λ is t le. omega (
          arith,
          unfinished_is node jobs j until (some run numbers j lt) is,
          later run numbers j t until le,
          same_of t j,
        )
        | Some f ↦ λ is.
            let ends = finish_is node jobs j until f (some run numbers j lt) is in (
              ends.0,
              omega (arith, ends.1.after, same_of f j),
              λ t early. omega (
                arith,
                ends.1.before,
                later run numbers j t (f - 1) (omega (arith, early)),
                same_of t j,
              ),
            )
      ] refl

  line_said : (line j : ℕ) → (lt : j < length rs)
      → IsJobLine none_comes node jobs until j (job_row line (record_of node jobs until j (release_at rs j)))
  line_said line j lt =
      let arrives = arrival_is run numbers j lt in
      let early = (legal run numbers).not_early j (omega (arith, lt, jobs_are run numbers)) in
      let ready = ready_in run numbers j lt in
      record {
        name = sym (name_is run numbers j lt) ∙ ap (λ k. (task_at U k).name) (sym (task_is run numbers j lt));
        no_sooner = omega (arith, arrives);
        no_later = omega (arith, arrives, early);
        in_run = omega (arith, arrives, early, ready);
        ready = tt;
        finish = finish_said j lt;
      }

  -- of the releases from one on
  lines_said : (line j : ℕ) (rest : List Release) → j + length rest ≡ length rs
      → ((k : ℕ) → k < length rest → release_at rest k ≡ release_at rs (j + k))
      → AreJobLines none_comes node jobs until j (jobs_from line (records_from node jobs until j rest))
  lines_said line j [] whole are = omega (arith, whole, jobs_are run numbers)
  lines_said line j (r ∷ rest) whole are =
      let lt : j < length rs = omega (arith, whole) in
      let z : j + 0 ≡ j = omega arith in
      let own : r ≡ release_at rs j = are 0 (omega arith) ∙ ap (release_at rs) z in (
        subst (λ (x : Release). IsJobLine none_comes node jobs until j
            (job_row line (record_of node jobs until j x))) (sym own) (line_said line j lt),
        lines_said (line + 1) (j + 1) rest (omega (arith, whole)) (λ k within.
            let next : j + suc k ≡ j + 1 + k = omega arith in
            are (suc k) (omega (arith, within)) ∙ ap (release_at rs) next),
      )

  pub beside : AreBeside U numbers places lines
  beside = record {
    set = run.set;
    order = run.order;
    in_time = run.in_time;
    rise = rise;
    comes = none_comes;
    counted = counted;
    jobs = jobs;
    legal = legal run numbers;
    shown = shown;
    are_shown = are_shown;
    until = until;
    slices = subst (λ (ss : List TraceSlice). ShowTicks none_comes node numbers jobs shown 0 until ss)
        (sym (rows_are run numbers)) (ticks run.first 0 (slices_of node jobs until) (longest_runs node jobs until));
    lines_of_jobs = subst (λ (js : List TraceJob). AreJobLines none_comes node jobs until 0 js)
        (sym (jobs_said run numbers)) (lines_said (run.first + length run.trace.slices.items) 0 rs (omega arith)
        (λ k within. (let z : k ≡ 0 + k = omega arith in ap (release_at rs) z)));
  }
