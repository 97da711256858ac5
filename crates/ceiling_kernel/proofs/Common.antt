-- The names of specs/ that most proofs cite, passed on from one place. Declares nothing.
pub use Rattle.ceiling_kernel.specs.Behaviours.{AreApart, TakeTurns}
pub use Rattle.ceiling_kernel.specs.Bounds.{CoversBy, PassesBy, above_of, after_of, ready_within}
pub use Rattle.ceiling_kernel.specs.Bounds.{response_by, work_of}
pub use Rattle.ceiling_kernel.specs.Jumps.{change_after}
pub use Rattle.ceiling_kernel.specs.Lists.{Queues, list_at, listed}
pub use Rattle.ceiling_kernel.specs.Readings.{AreLongestRuns}
pub use Rattle.ceiling_kernel.specs.Releases.{IsRefusal, is_outside_cost, is_past, is_too_late}
pub use Rattle.ceiling_kernel.specs.Releases.{is_too_soon, is_unknown, is_unsorted, job_of, jobs_of}
pub use Rattle.ceiling_kernel.specs.Releases.{no_release, ready_of, refusal_of, release_at}
pub use Rattle.ceiling_kernel.specs.Releases.{task_named, task_number}
unfoldable pub use Rattle.ceiling_kernel.specs.Releases.{first_where}
pub use Rattle.ceiling_kernel.specs.Runs.{Runs, no_record, record_of, records_from}
pub use Rattle.ceiling_kernel.specs.States.{AreFinishes, IsRunnable, IsRunning, active_at}
pub use Rattle.ceiling_kernel.specs.States.{best_slot, next_change}
pub use Rattle.ceiling_kernel.specs.Tick.{Job, Node, active_of, ceiling, held_ceiling, is_inside}
pub use Rattle.ceiling_kernel.specs.Tick.{job_at, job_task, level_from, level_in_order}
pub use Rattle.ceiling_kernel.specs.Tick.{level_of_job, node_in, top_ceiling}
unfoldable pub use Rattle.ceiling_kernel.specs.Tick.{executed_before, picked}
unfoldable pub use Rattle.ceiling_kernel.specs.Trace.{finish_before, slices_before}
pub use Rattle.ceiling_kernel.specs.Turns.{AreTurns, has_come, job_in_turn}
pub use Rattle.ceiling_kernel.specs.Waits.{AreLegalJobs, IsNode, NoOverrunBy, lateness_of}
