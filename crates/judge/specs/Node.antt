-- The order that a node has, and the numbers of its threads.
use Rattle.std.specs.Prelude.{◌≡◌, ℕ, Bool, false, List, map, None, Ok}
use Rattle.std.specs.List.Sorted.{IsStrictlyIncreasing}
use Rattle.task_sheet.specs.Sheet.{Task}
use Rattle.task_sheet.specs.Orders.{IsOrder}
use Rattle.judge.specs.SettingLines.{heights, rows_in, threads_of}
use Rattle.judge.specs.SettingFaults.{rows_fault, thread_number, settings_fault_by}
use Rattle.judge.specs.declared.rows.SettingRow.{SettingRow}
use Rattle.judge.specs.declared.rows.Setting.{Setting}

-- an order of the set in which the numbers of the threads rise
pub record IsOrderBy (U : List Task) (threads : List Setting) (order : List ℕ) : Type 0 where
  pub each_once : IsOrder U order
  pub rises : IsStrictlyIncreasing (map (thread_number U threads) order)

-- rows, whose numbers count so, are settings of a set, and this is the order that they give, the lowest first
pub record IsOrderOfRows (lower : Bool) (U : List Task) (rows : List SettingRow) (order : List ℕ) : Type 0 where
  pub sound : rows_fault lower U (Ok rows) ≡ None
  pub by_numbers : IsOrderBy U (heights lower (threads_of rows)) order

-- a text, whose numbers count so, is settings of a set, and this is the order that they give, the lowest first
pub record IsNodeOrderBy (lower : Bool) (U : List Task) (text order : List ℕ) : Type 0 where
  pub sound : settings_fault_by lower U text ≡ None
  pub rows : List SettingRow
  pub read : rows_in text ≡ Ok rows
  pub by_numbers : IsOrderBy U (heights lower (threads_of rows)) order

-- the same, where a greater number is higher
abbrev pub IsNodeOrder : List Task → (text order : List ℕ) → Type 0
IsNodeOrder = IsNodeOrderBy false

-- these are the numbers that rows have of the threads of an order's tasks, one by one
abbrev pub AreNumbersOf : List Task → List SettingRow → (order numbers : List ℕ) → Type 0
AreNumbersOf U rows order numbers = numbers ≡ map (thread_number U (threads_of rows)) order

-- these are the numbers that a text has of the threads of an order's tasks, one by one
pub record AreNumbersIn (U : List Task) (text order numbers : List ℕ) : Type 0 where
  pub rows : List SettingRow
  pub read : rows_in text ≡ Ok rows
  pub each : AreNumbersOf U rows order numbers
