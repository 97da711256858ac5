-- Runs of a set in an order that passes, as traces.
use Rattle.std.specs.Prelude.{ℕ, List, Ok}
use Rattle.task_sheet.specs.Sheet.{Task}
use Rattle.task_sheet.specs.TaskSet.{IsTaskSet}
use Rattle.task_sheet.specs.Orders.{IsOrder}
use Rattle.assignment.specs.Places.{PlaceData}
use Rattle.assignment.specs.Placings.{tasks_of_places}
use Rattle.explain.specs.Accounts.{AreInTime}
use Rattle.ceiling_kernel.specs.Runs.{Runs}
use Rattle.ceiling_kernel.specs.Tick.{node_in}
use Rattle.ceiling_kernel.specs.declared.trace.Release.{Release}
use Rattle.ceiling_kernel.specs.declared.trace.Trace.{Trace}
use Rattle.trace_text.specs.declared.reading.TraceLines.{TraceLines}
use Rattle.kept_promises.specs.PrintedRuns.{Say}

-- the lines say a run of the simulated kernel at the levels of an order, in which the response of each task is within its
-- deadline; settings may stand in front of them
pub record AreOfRun (U : List Task) (places : List PlaceData) (lines : TraceLines) : Type 0 where
  pub set : IsTaskSet U
  pub order : IsOrder U (tasks_of_places places)
  pub in_time : AreInTime U places
  pub releases : List Release
  pub until : ℕ
  pub trace : Trace
  pub runs : Runs (node_in U (tasks_of_places places)) releases until (Ok trace)
  pub first : ℕ
  pub say : Say first lines trace
