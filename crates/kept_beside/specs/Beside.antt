-- Runs beside timers and interrupts in an order that passes, as traces.
use Rattle.std.specs.Prelude.{ℕ, ◌<◌, ◌≤◌, List, length, Option}
use Rattle.task_sheet.specs.Sheet.{Task}
use Rattle.task_sheet.specs.TaskSet.{IsTaskSet}
use Rattle.task_sheet.specs.Orders.{IsOrder}
use Rattle.assignment.specs.Places.{PlaceData}
use Rattle.assignment.specs.Placings.{tasks_of_places}
use Rattle.explain.specs.Accounts.{AreInTime}
use Rattle.ceiling_kernel.specs.Tick.{Job, node_in}
use Rattle.ceiling_kernel.specs.Waits.{AreLegalJobs}
use Rattle.interrupted_runs.specs.Interrupted.{ComeWithin}
use Rattle.trace_text.specs.declared.reading.TraceLines.{TraceLines}
use Rattle.observed.specs.Promises.{number_at}
use Rattle.kept_beside.specs.ShownSlices.{AreShown, ShowTicks}
use Rattle.kept_beside.specs.ShownJobs.{AreJobLines}

-- the numbers of the threads at these levels don't fall
abbrev pub Rise : (numbers : List ℕ) → List PlaceData → Type 0
Rise numbers places =
    (low high : ℕ) → low ≤ high → high < length places
    → number_at numbers low ≤ number_at numbers high

-- The lines say a run at the levels of an order, in which the response of each task is within its deadline. In no window come
-- more timers and interrupts than the demand has for its length; the jobs are legal, and done as the tick rule says. It lasts
-- from tick 0 up to some time.
pub record AreBeside (U : List Task) (numbers : List ℕ) (places : List PlaceData) (lines : TraceLines)
    : Type 0 where
  pub set : IsTaskSet U
  pub order : IsOrder U (tasks_of_places places)
  pub in_time : AreInTime U places
  pub rise : Rise numbers places
  pub comes : ℕ → ℕ
  pub counted : ComeWithin comes (node_in U (tasks_of_places places))
  pub jobs : List Job
  pub legal : AreLegalJobs (node_in U (tasks_of_places places)) jobs
  pub shown : ℕ → Option ℕ
  pub are_shown : AreShown comes (node_in U (tasks_of_places places)) jobs shown
  pub until : ℕ
  pub slices : ShowTicks comes (node_in U (tasks_of_places places)) numbers jobs shown 0 until lines.slices.items
  pub lines_of_jobs : AreJobLines comes (node_in U (tasks_of_places places)) jobs until 0 lines.jobs.items
