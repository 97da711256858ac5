-- What the age of a chain in a trace is held against. At finishes its bound. Where its tasks write at their deadlines, an ARRIVAL
-- may be as late as its task's jitter, if it isn't said when the job was ready: then it may be when that is seen. So each period and
-- each deadline may seem longer by so much, once for each task; and a task that is seen late may seem to miss what another one hands
-- over on their clock, so that it waits as without one.
use Rattle.std.specs.Prelude.{ℕ, ◌+◌, ◌==◌, if◌then◌else◌, is_some, nat_lt, List, [], sum_by, Option}
use Rattle.std.specs.List.{list_any}
use Rattle.std.specs.Option.{option_map}
use Rattle.task_sheet.specs.Demand.{greatest_of}
use Rattle.observed.specs.SeenJob.{SeenData}
use Rattle.chains.specs.declared.bounds.Writes.{Writes}
use Rattle.chains.specs.declared.bounds.Writes.TheVariants.{AtFinish, AtDeadline}

-- how late a job may be seen to arrive
abbrev pub late_by : SeenData → ℕ
late_by s = if is_some s.delay then 0 else s.promise.jitter

-- the same of one of a task; 0 of any other
abbrev pub late_at : (task : ℕ) → SeenData → ℕ
late_at task s = if s.promise.task == task then late_by s else 0

-- how late the jobs of a task may be
abbrev pub late_of : List SeenData → (task : ℕ) → ℕ
late_of seen task = greatest_of (late_at task) seen

-- the offsets that the bound has then: none where a job of these tasks may be seen late
abbrev pub offsets_held : Writes → List SeenData → (tasks offsets : List ℕ) → List ℕ
offsets_held AtFinish seen tasks offsets = offsets
offsets_held AtDeadline seen tasks offsets =
    if list_any (λ task. nat_lt 0 (late_of seen task)) tasks then [] else offsets

-- how old a chain of tasks with this bound may get, as it is seen
abbrev pub most_of : Writes → List SeenData → (tasks : List ℕ) → (bound : Option ℕ) → Option ℕ
most_of AtFinish seen tasks bound = bound
most_of AtDeadline seen tasks bound = option_map (λ b. b + sum_by (late_of seen) tasks) bound
