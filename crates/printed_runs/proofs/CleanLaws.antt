-- Nothing is broken in the lines of a run.
use Rattle.std.proofs.Common.{◌≡◌, ◌∙◌, ℕ, List, [], Some, Ok, true, inl, inr, sym, subst}
use Rattle.std.proofs.lemmas.Option.{none-some, same_Some}
use Rattle.task_sheet.proofs.Common.{Task, IsTaskSet, indexes_of}
use Rattle.task_sheet.proofs.LevelLaws.{IsBest-one}
use Rattle.task_sheet.proofs.ObstructionLaws.{IsObstruction-fails}
use Rattle.task_sheet.proofs.TaskLaws.{AllTasks-from_set}
use Rattle.assignment.specs.Places.{PlaceData}
use Rattle.assignment.specs.Placings.{IsBestPlacing, tasks_of_places}
use Rattle.explain.proofs.AccountLaws.{best-in_time}
use Rattle.ceiling_kernel.proofs.Common.{node_in, Runs}
use Rattle.ceiling_kernel.specs.declared.trace.Release.{Release}
use Rattle.ceiling_kernel.specs.declared.trace.Trace.{Trace}
use Rattle.trace_text.specs.TraceFaults.{IsTraceIn, trace_fault}
use Rattle.trace_text.specs.declared.fault.TraceFault.{TraceFault}
use Rattle.trace_text.specs.declared.fault.TraceFault.TheVariants as fault
use Rattle.trace_text.specs.declared.reading.TraceLines.{TraceLines}
use Rattle.observed.specs.Observed.{observed_in}
use Rattle.observed.specs.Promises.{levels_from, promises_by_level}
use Rattle.observed.specs.Sights.{IsSight, IsSightFault}
use Rattle.observed.specs.SeenJob.{SeenData}
use Rattle.observed.specs.declared.sight.Sight.{Sight}
use Rattle.observed.specs.declared.sight.Sight.TheVariants.{Infeasible, Seen}
use Rattle.observed_lines.specs.Breaks.{is_kept}
use Rattle.observed_lines.specs.Broken.{broken_lines}
use Rattle.kept_promises.specs.KeptPromises.{KeepsToDemand}
use Rattle.kept_promises.specs.OfRuns.{AreOfRun}
use Rattle.kept_promises.proofs.BreakLaws.{all_are_kept, none_written}
use Rattle.kept_promises.proofs.SeenLaws.{all_seen, housed, keeps_to_demand}
use Rattle.printed_runs.specs.Clean.{IsClean, IsForRoom}
use Rattle.printed_runs.specs.TraceLines.{trace_lines}
use Rattle.printed_runs.proofs.RunLaws.{in_order, says}

module _ (U : List Task) (places : List PlaceData) (rs : List Release) (until : ℕ) (trace : Trace)
    (set : IsTaskSet U) (best : IsBestPlacing U places)
    (ran : Runs (node_in U (tasks_of_places places)) rs until (Ok trace)) where
  -- what the lines are read as is of the run, in whatever best order
  of_run : (others : List PlaceData) (lines : TraceLines) → IsBestPlacing U others
      → IsTraceIn (trace_lines trace) lines → AreOfRun U others lines
  of_run others lines is_best read =
      let same : tasks_of_places places ≡ tasks_of_places others =
      IsBest-one U (tasks_of_places places) (tasks_of_places others) best.best is_best.best in
      record {
        set = set;
        order = is_best.best.passing.each_once;
        in_time = best-in_time U others set is_best;
        releases = rs;
        until = until;
        trace = trace;
        runs = subst (λ (order : List ℕ). Runs (node_in U order) rs until (Ok trace)) same ran;
        first = 1;
        say = says U (tasks_of_places places) rs until trace set ran lines read;
      }

  pub clean : (tolerance : ℕ) (sight : Sight) → IsSight U (trace_lines trace) sight
      → IsClean tolerance sight
  clean tolerance (Infeasible members) is = IsObstruction-fails U (AllTasks-from_set U set)
      (indexes_of members) is.0.obstruction (tasks_of_places places, best.best.passing)
  clean tolerance (Seen shown) is =
      let run : AreOfRun U is.places is.lines =
      of_run is.places is.lines is.inputs.best is.inputs.read in
      let numbers : List ℕ = levels_from 1 is.places in
      let kept = all_seen run numbers KeepsToDemand (keeps_to_demand run numbers) in (
        subst (λ (seen : List SeenData). is_kept tolerance seen ≡ true) (sym is.shown.seen)
            (all_are_kept tolerance (observed_in U (promises_by_level U is.places) is.lines) kept),
        subst (λ (seen : List SeenData). broken_lines tolerance seen ≡ []) (sym is.shown.seen)
            (none_written tolerance (observed_in U (promises_by_level U is.places) is.lines) kept),
      )

  -- of faults of the text, there is only want of room
  only_many : (e : TraceFault) → trace_fault (trace_lines trace) ≡ Some e → e ≡ fault.TooManyLines
  only_many e is =
      elim (in_order U (tasks_of_places places) rs until trace set ran) [
        | inl none ↦ absurd (none-some e (sym none ∙ is))
        | inr many ↦ same_Some e fault.TooManyLines (sym is ∙ many)
      ]

  pub refused : (e : TraceFault) → IsSightFault U (trace_lines trace) e → IsForRoom e
  refused fault.OutOfMemory is = tt
  refused fault.TooManyLines is = tt
  refused (fault.NoJob line) is =
      none-some (fault.NoJob line) (sym (housed (of_run is.0 is.1 is.2.best is.2.read)
      (levels_from 1 is.0)) ∙ is.3)
  refused (fault.BadLine line) is = (let same = only_many (fault.BadLine line) is in cc)
  refused (fault.SliceOverlap line) is = (let same = only_many (fault.SliceOverlap line) is in cc)
  refused (fault.JobUnsorted line) is = (let same = only_many (fault.JobUnsorted line) is in cc)
