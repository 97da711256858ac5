-- The names of specs/ that most proofs cite, passed on from one place. Declares nothing.
pub use Rattle.task_sheet.specs.Choices.{does_stand}
unfoldable pub use Rattle.task_sheet.specs.Choices.{level_at}
pub use Rattle.task_sheet.specs.Demand.{IsResponseOf, Passes, greatest_of, interference_of}
pub use Rattle.task_sheet.specs.Demand.{interference_within, interrupt_within, interrupts_of}
pub use Rattle.task_sheet.specs.Demand.{limit_of, longest_reached, past_jitter, releases_within}
unfoldable pub use Rattle.task_sheet.specs.Demand.{blocking_of, demand_of, interrupts_within}
pub use Rattle.task_sheet.specs.Indexes.{Indexes, IsPart, among, below, greatest_below, indexes_of}
pub use Rattle.task_sheet.specs.Indexes.{listed_below, no_index, some_below, sum_below, with_index}
pub use Rattle.task_sheet.specs.Indexes.{without_index}
unfoldable pub use Rattle.task_sheet.specs.Indexes.{meet}
pub use Rattle.task_sheet.specs.Levels.{AllChosen, IsChosen, IsGreatestObstruction, IsObstruction}
pub use Rattle.task_sheet.specs.Levels.{NoneStands, left_after}
pub use Rattle.task_sheet.specs.Locks.{ceiling_from, ceiling_of, names_lock, reaches, shares_lock}
pub use Rattle.task_sheet.specs.Locks.{uses}
pub use Rattle.task_sheet.specs.MembersWords.{all_below}
pub use Rattle.task_sheet.specs.Name.{IsName, is_name, is_name_byte}
pub use Rattle.task_sheet.specs.Orders.{AllStand, IsBest, IsBetter, IsFeasible, IsOrder, IsOrderOf}
pub use Rattle.task_sheet.specs.Orders.{IsPassingOrder, Stands, all_of, must_outrank}
unfoldable pub use Rattle.task_sheet.specs.Orders.{must_outrank_any}
pub use Rattle.task_sheet.specs.Overheads.{calls, calls_in}
pub use Rattle.task_sheet.specs.Rank.{IsByRank, rank_cmp}
pub use Rattle.task_sheet.specs.Ready.{AllReady, IsReadyOrder, IsReadySet}
pub use Rattle.task_sheet.specs.Responses.{ChainFrom, IsFullChain}
pub use Rattle.task_sheet.specs.Sheet.{AllTasks, AreInterrupts, AreOverheads, AreSections}
pub use Rattle.task_sheet.specs.Sheet.{CriticalSection, IsInterrupt, IsSection, IsTask}
pub use Rattle.task_sheet.specs.Sheet.{IsValidSheet, Named, Task, no_overhead, no_task}
pub use Rattle.task_sheet.specs.Sheet.{outranks_task, same_bytes, task_at, task_of}
pub use Rattle.task_sheet.specs.SheetFault.{sheet_fault}
pub use Rattle.task_sheet.specs.SheetsFault.{sheets_fault}
pub use Rattle.task_sheet.specs.TaskSet.{AreDistinct, IsTaskSet, first_repeat, has_name, same_name}
pub use Rattle.task_sheet.specs.Tree.{all_tables, tables_in}
pub use Rattle.task_sheet.specs.Verdicts.{Admitted, AllFailures, AllLevels, FailureData, Infeasible}
pub use Rattle.task_sheet.specs.Verdicts.{IsBestOrder, IsLeastOver, IsStuck, IsVerdictOf, LevelData}
pub use Rattle.task_sheet.specs.Verdicts.{ReasonData, VerdictData, order_of, tasks_of}
