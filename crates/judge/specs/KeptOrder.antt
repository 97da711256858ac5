-- The order that settings give those of their threads that a set has as tasks: they may be of another set.
use Rattle.std.specs.Prelude.{◌≡◌, ℕ, ◌&&◌, List, [], ◌∷◌, map, Option, Some, None, Result, Ok, Err, if◌then◌else◌}
use Rattle.std.specs.List.Sorted.{IsStrictlyIncreasing}
use Rattle.std.specs.Option.{option_or, option_map}
use Rattle.task_sheet.specs.Sheet.{Task, task_at}
use Rattle.task_sheet.specs.Indexes.{Indexes}
use Rattle.task_sheet.specs.Orders.{all_of, IsOrderOf}
use Rattle.judge.specs.SettingFaults.{is_set, line_again, same_number, same_setting_name, setting_number, thread_number}
use Rattle.judge.specs.SettingLines.{rows_in, threads_of}
use Rattle.judge.specs.declared.fault.SettingsFault.{SettingsFault}
use Rattle.judge.specs.declared.fault.SettingsFault.TheVariants as fault
use Rattle.judge.specs.declared.order.Numbered.{Numbered}
use Rattle.judge.specs.declared.rows.SettingRow.{SettingRow}
use Rattle.judge.specs.declared.rows.Setting.{Setting}

-- the tasks of a set that have a thread
abbrev pub with_thread_in : List Task → List Setting → Indexes
with_thread_in U threads k = all_of U k && is_set threads (task_at U k).name

-- a task with the number of its thread, where it has one
abbrev pub numbered_at : List Setting → List ℕ → ℕ → List Numbered
numbered_at threads name task =
    if is_set threads name then record { number = setting_number threads name; task = task } ∷ [] else []

-- each of them once, in an order in which the numbers of the threads rise
pub record IsOrderOfThreads (U : List Task) (threads : List Setting) (order : List ℕ) : Type 0 where
  pub each_once : IsOrderOf (with_thread_in U threads) order
  pub rises : IsStrictlyIncreasing (map (thread_number U threads) order)

-- the first reason why threads have no order, whatever their tasks are
abbrev pub threads_fault : List Setting → Option SettingsFault
threads_fault threads =
    option_or (option_map (λ line. fault.SameTask line) (line_again same_setting_name [] threads))
    (option_map (λ line. fault.SameNumber line) (line_again same_number [] threads))

-- the first reason of a reading
abbrev pub kept_rows_fault : Result (List SettingRow) ℕ → Option SettingsFault
kept_rows_fault (Err line) = Some (fault.BadLine line)
kept_rows_fault (Ok rows) = threads_fault (threads_of rows)

-- the first reason why a text gives no order to keep
abbrev pub kept_fault : List ℕ → Option SettingsFault
kept_fault text = kept_rows_fault (rows_in text)

-- a text gives this order to those of its threads that are tasks of a set, the lowest first
pub record IsKeptOrder (U : List Task) (text order : List ℕ) : Type 0 where
  pub sound : kept_fault text ≡ None
  pub rows : List SettingRow
  pub read : rows_in text ≡ Ok rows
  pub by_numbers : IsOrderOfThreads U (threads_of rows) order
