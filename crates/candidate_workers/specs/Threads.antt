-- How many threads the test of a set is worth.
use Rattle.std.specs.Prelude.{ℕ, ◌+◌, ◌*◌, List, length, sum_by, nat_lt, if◌then◌else◌}
use Rattle.task_sheet.specs.declared.node.Interrupt.{Interrupt}
use Rattle.task_sheet.specs.Sheet.{Task, task_at}
use Rattle.task_sheet.specs.Indexes.{sum_below}
use Rattle.task_sheet.specs.Demand.{jobs_within, releases_within, limit_of}
use Rattle.candidate_workers.specs.declared.threads.TheConstants.{DEMANDS_WORTH_THREADS}

-- how often at most an interrupt comes within a time
abbrev pub comes_within : ℕ → Interrupt → ℕ
comes_within time x = jobs_within x.period 0 time

-- how often at most a task is released, and the interrupts on its account come, within a time
abbrev pub events_within : ℕ → Task → ℕ
events_within time t = releases_within t time + sum_by (comes_within time) t.interrupts

-- a bound on the demands of a question on a task: two more than how often the tasks of the set are
-- released, and its interrupts come, within its limit
abbrev pub demands_on : List Task → Task → ℕ
demands_on U t = 2 + sum_below (length U) (λ k. events_within (limit_of t) (task_at U k))

-- a bound on the demands of a set's test, of which each level asks each task once at most
abbrev pub demands_in : List Task → ℕ
demands_in U = length U * sum_below (length U) (λ i. demands_on U (task_at U i))

-- all threads that were asked for, or one where the test has fewer demands than make threads worth
-- starting
abbrev pub threads_worth_of : List Task → ℕ → ℕ
threads_worth_of U workers = if nat_lt (demands_in U) DEMANDS_WORTH_THREADS then 1 else workers
