-- How a `Workload` keeps its data: the shares that count stand in front.
use Rattle.std.specs.Prelude.{◌+◌, ◌*◌, ◌≤◌, take}
use Rattle.task_sheet.specs.declared.set.TheConstants.{TASK_LIMIT}
use Rattle.response_time.specs.declared.workload.TheConstants.{WINDOW_LIMIT}
use Rattle.response_time.specs.declared.workload.Workload.TheInside.{Inside}
use Rattle.response_time.specs.Workload.{WorkloadData, IsCarried}

-- what callers see of it
abbrev pub workload_of : Inside → WorkloadData
workload_of w =
    record { always = w.always; shares = take w.count w.shares; time = w.time; total = w.total }

-- it is within its limits, and its total is the work in the last window
abbrev pub IsKept : Inside → Type 0
IsKept w = (w.count ≤ TASK_LIMIT)
    × (w.always ≤ (2 + 3 * TASK_LIMIT) * WINDOW_LIMIT) × (w.time ≤ WINDOW_LIMIT)
    × IsCarried (workload_of w)
