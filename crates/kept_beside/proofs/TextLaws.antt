-- Nothing is broken in a text that is read as the trace of a run beside timers and interrupts.
use Rattle.std.proofs.Common.{◌≡◌, ◌∙◌, ℕ, ◌+◌, List, [], ◌∷◌, Some, true, refl, sym, ap, subst, arith, length}
use Rattle.std.proofs.lemmas.Option.{none-some}
use Rattle.task_sheet.proofs.Common.{Task, indexes_of, IsOrder}
use Rattle.task_sheet.proofs.LevelLaws.{IsBest-one}
use Rattle.task_sheet.proofs.ObstructionLaws.{IsObstruction-fails}
use Rattle.task_sheet.proofs.TaskLaws.{AllTasks-from_set}
use Rattle.assignment.specs.Places.{PlaceData}
use Rattle.assignment.specs.Placings.{IsBestPlacing, tasks_of_places}
use Rattle.explain.specs.Accounts.{AreInTime}
use Rattle.explain.proofs.AccountLaws.{best-in_time}
use Rattle.ceiling_kernel.specs.Tick.{node_in}
use Rattle.ceiling_kernel.specs.Waits.{AreLegalJobs}
use Rattle.interrupted_runs.specs.Interrupted.{ComeWithin}
use Rattle.trace_text.specs.TraceFaults.{IsTraceIn, rows_fault}
use Rattle.trace_text.specs.TraceLines.{jobs_of, rows_in, slices_of}
use Rattle.trace_text.specs.declared.fault.TraceFault.{TraceFault}
use Rattle.trace_text.specs.declared.fault.TraceFault.TheVariants as fault
use Rattle.trace_text.specs.declared.reading.TraceLines.{TraceLines}
use Rattle.trace_text.specs.declared.rows.TraceJob.{TraceJob}
use Rattle.trace_text.specs.declared.rows.TraceSlice.{TraceSlice}
use Rattle.observed.specs.Observed.{observed_in}
use Rattle.observed.specs.Promises.{levels_from, promises_by_level}
use Rattle.observed.specs.Sights.{IsSight, IsSightFault}
use Rattle.observed.specs.SeenJob.{SeenData}
use Rattle.observed.specs.declared.sight.Sight.{Sight}
use Rattle.observed.specs.declared.sight.Sight.TheVariants.{Infeasible, Seen}
use Rattle.observed_lines.specs.Breaks.{is_kept}
use Rattle.observed_lines.specs.Broken.{broken_lines}
use Rattle.kept_promises.proofs.BreakLaws.{all_are_kept, none_written}
use Rattle.printed_runs.specs.Clean.{IsClean}
use Rattle.kept_beside.specs.ShownSlices.{AreShown, ShowTicks}
use Rattle.kept_beside.specs.ShownJobs.{AreJobLines}
use Rattle.kept_beside.specs.Beside.{AreBeside}
use Rattle.kept_beside.proofs.RunLaws.{housed, keeps_beside}

-- ---- one order, with other places
-- the levels of tasks
abbrev levels_by : ℕ → List ℕ → List ℕ
levels_by level [] = []
levels_by level (i ∷ order) = level ∷ levels_by (level + 1) order

by_tasks : (level : ℕ) (places : List PlaceData)
    → levels_from level places ≡ levels_by level (tasks_of_places places)
by_tasks level [] = refl
by_tasks level (p ∷ places) = ap (λ (ls : List ℕ). level ∷ ls) (by_tasks (level + 1) places)

tasks_length : (places : List PlaceData) → length (tasks_of_places places) ≡ length places
tasks_length [] = refl
tasks_length (p ∷ places) = omega (arith, tasks_length places)

-- the same run in places of the same tasks, said by lines of the same slices and jobs
moved : (U : List Task) (numbers : List ℕ) (places others : List PlaceData) (lines same : TraceLines)
    → tasks_of_places places ≡ tasks_of_places others → AreInTime U others
    → lines.slices.items ≡ same.slices.items → lines.jobs.items ≡ same.jobs.items
    → AreBeside U numbers places lines → AreBeside U numbers others same
moved U numbers places others lines same tasks in_time slices jobs run =
    record {
      set = run.set;
      order = subst (λ (order : List ℕ). IsOrder U order) tasks run.order;
      in_time = in_time;
      rise = λ low high le lt. run.rise low high le (omega (
        arith,
        lt,
        tasks_length places,
        tasks_length others,
        ap (λ (order : List ℕ). length order) tasks,
      ));
      comes = run.comes;
      counted = subst (λ (order : List ℕ). ComeWithin run.comes (node_in U order)) tasks run.counted;
      jobs = run.jobs;
      legal = subst (λ (order : List ℕ). AreLegalJobs (node_in U order) run.jobs) tasks run.legal;
      shown = run.shown;
      are_shown = subst (λ (order : List ℕ). AreShown run.comes (node_in U order) run.jobs run.shown) tasks run.are_shown;
      until = run.until;
      slices = subst (λ (ss : List TraceSlice). ShowTicks run.comes (node_in U (tasks_of_places others)) numbers
          run.jobs run.shown 0 run.until ss) slices (subst (λ (order : List ℕ). ShowTicks run.comes (node_in U order) numbers
          run.jobs run.shown 0 run.until lines.slices.items) tasks run.slices);
      lines_of_jobs = subst (λ (js : List TraceJob). AreJobLines run.comes (node_in U (tasks_of_places others))
          run.jobs run.until 0 js) jobs (subst (λ (order : List ℕ). AreJobLines run.comes (node_in U order) run.jobs
          run.until 0 lines.jobs.items) tasks run.lines_of_jobs);
    }

-- ---- a text
module _ (U : List Task) (places : List PlaceData) (text : List ℕ) (lines : TraceLines)
    (best : IsBestPlacing U places) (read : IsTraceIn text lines)
    (run : AreBeside U (levels_from 1 places) places lines) where
  -- what the text is read as is of the run, in whatever best order
  of_text : (others : List PlaceData) (same : TraceLines) → IsBestPlacing U others → IsTraceIn text same
      → AreBeside U (levels_from 1 others) others same
  of_text others same is_best again =
      let tasks : tasks_of_places places ≡ tasks_of_places others =
      IsBest-one U (tasks_of_places places) (tasks_of_places others) best.best is_best.best in
      let levels : levels_from 1 places ≡ levels_from 1 others =
      by_tasks 1 places ∙ ap (levels_by 1) tasks ∙ sym (by_tasks 1 others) in
      let found : read.rows ≡ again.rows = cc in
      let slices : lines.slices.items ≡ same.slices.items =
      read.slices ∙ ap slices_of found ∙ sym again.slices in
      let jobs : lines.jobs.items ≡ same.jobs.items = read.jobs ∙ ap jobs_of found ∙ sym again.jobs in
      subst (λ (numbers : List ℕ). AreBeside U numbers others same) levels
      (moved U (levels_from 1 places) places others lines same tasks (best-in_time U others run.set is_best)
      slices jobs run)

  pub clean : (tolerance : ℕ) (sight : Sight) → IsSight U text sight → IsClean tolerance sight
  clean tolerance (Infeasible members) is = IsObstruction-fails U (AllTasks-from_set U run.set)
      (indexes_of members) is.0.obstruction (tasks_of_places places, best.best.passing)
  clean tolerance (Seen shown) is =
      let kept = keeps_beside (of_text is.places is.lines is.inputs.best is.inputs.read) in (
        subst (λ (seen : List SeenData). is_kept tolerance seen ≡ true) (sym is.shown.seen)
            (all_are_kept tolerance (observed_in U (promises_by_level U is.places) is.lines) kept),
        subst (λ (seen : List SeenData). broken_lines tolerance seen ≡ []) (sym is.shown.seen)
            (none_written tolerance (observed_in U (promises_by_level U is.places) is.lines) kept),
      )

  -- no fault is found in it
  none_faulty : (e : TraceFault) → rows_fault (rows_in text) ≡ Some e → ⊥
  none_faulty e is = none-some e (sym read.sound ∙ is)

  pub refused : (e : TraceFault) → IsSightFault U text e → e ≡ fault.OutOfMemory
  refused fault.OutOfMemory is = refl
  refused (fault.NoJob line) is =
      absurd (none-some (fault.NoJob line) (sym (housed (of_text is.0 is.1 is.2.best is.2.read)) ∙ is.3))
  refused fault.TooManyLines is = absurd (none_faulty fault.TooManyLines is)
  refused (fault.BadLine line) is = absurd (none_faulty (fault.BadLine line) is)
  refused (fault.SliceOverlap line) is = absurd (none_faulty (fault.SliceOverlap line) is)
  refused (fault.JobUnsorted line) is = absurd (none_faulty (fault.JobUnsorted line) is)
