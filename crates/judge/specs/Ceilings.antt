-- What becomes of the tasks of an order by the ceilings that mutexes are given, the least or higher ones (Sha, Rajkumar,
-- Lehoczky 1990; POSIX.1-2017, PTHREAD_PRIO_PROTECT).
use Rattle.std.specs.Prelude.{◌≡◌, ℕ, ◌+◌, ◌≤◌, Bool, nat_le, max, List, [], ◌∷◌, length, None, Ok, IsFalse, if◌then◌else◌}
use Rattle.std.specs.List.{list_any}
use Rattle.task_sheet.specs.Sheet.{CriticalSection, Task, task_at}
use Rattle.task_sheet.specs.Indexes.{Indexes, among, greatest_below, with_index}
use Rattle.task_sheet.specs.Demand.{greatest_of, interference_within, interrupts_within, limit_of, past_jitter}
use Rattle.task_sheet.specs.Responses.{Covers, IsFullChain, IsResponse}
use Rattle.task_sheet.specs.Orders.{must_outrank_any}
use Rattle.task_sheet.specs.Verdicts.{IsLeastOver}
use Rattle.explain.specs.Needs.{EndsWith}
use Rattle.judge.specs.SettingFaults.{given_fault_by, given_rows_fault, setting_number, thread_number, top_number}
use Rattle.judge.specs.Judgements.{order_judged}
use Rattle.judge.specs.Node.{IsOrderBy}
use Rattle.judge.specs.SettingLines.{heights, mutexes_of, rows_in, threads_of}
use Rattle.judge.specs.declared.judging.JudgedTask.{JudgedTask}
use Rattle.judge.specs.declared.judging.Judgement.{Judgement}
use Rattle.judge.specs.declared.judging.Judgement.TheVariants.{Meets, Misses, Below}
use Rattle.judge.specs.declared.rows.SettingRow.{SettingRow}
use Rattle.judge.specs.declared.rows.Setting.{Setting}

-- ---- ceilings and blocking
-- the ceiling of a lock: the number of its mutex, which is refused where it is below that of the lock's highest user; that
-- one where there is no mutex
abbrev pub ceiling_in : List Task → (threads mutexes : List Setting) → List ℕ → ℕ
ceiling_in U threads mutexes lock = max (setting_number mutexes lock) (top_number U threads lock)

-- whoever executes the section does so at this number or above: the ceiling of one of its locks is there
abbrev pub raises_to : (ceiling : List ℕ → ℕ) → (number : ℕ) → CriticalSection → Bool
raises_to ceiling number s = list_any (λ lock. nat_le number (ceiling lock)) s.locks

-- the longest such section of a task
abbrev pub longest_raised : (ceiling : List ℕ → ℕ) → (number : ℕ) → Task → ℕ
longest_raised ceiling number t =
    greatest_of (λ s. if raises_to ceiling number s then s.len else 0) t.sections

-- the blocking of task i, whose thread has this number, with the tasks H above it: the longest section of a task below, at
-- that number or above; 0 if there is none
unfoldable pub blocking_at : (ceiling : List ℕ → ℕ) → (number : ℕ) → List Task → ℕ → Indexes → ℕ
blocking_at ceiling number U i H =
    greatest_below (length U) (λ k. if with_index H i k then 0
    else longest_raised ceiling number (task_at U k))

-- the demand of task i with the tasks H above it and so much blocking (Audsley et al. 1993)
unfoldable pub demand_blocked : (blocking : ℕ) → List Task → ℕ → Indexes → ℕ → ℕ
demand_blocked blocking U i H time =
    (task_at U i).cost + blocking + interference_within U H time + interrupts_within U time

-- ---- judgements
-- what task i needs at least below the tasks H with so much blocking, where it doesn't pass there
pub record IsNeededWith (blocking : ℕ) (U : List Task) (i : ℕ) (H : Indexes) (needs : ℕ) : Type 0 where
  pub chain : List ℕ
  pub before : ℕ
  pub last : ℕ
  pub full : IsFullChain (demand_blocked blocking U i H) (limit_of (task_at U i)) chain
  pub ends : EndsWith chain before last
  pub time : needs ≡ last + (task_at U i).jitter

-- what becomes of task i with the tasks H above it and so much blocking
abbrev pub IsJudgementWith : (blocking : ℕ) → List Task → ℕ → Indexes → Judgement → Type 0
IsJudgementWith blocking U i H (Meets response) =
    IsFalse (must_outrank_any U i H)
    × IsResponse (demand_blocked blocking U i H) (past_jitter (task_at U i) response)
    × (response ≤ (task_at U i).deadline)
IsJudgementWith blocking U i H (Misses needs) =
    IsFalse (must_outrank_any U i H) × ¬ Covers (demand_blocked blocking U i H) (limit_of (task_at U i))
    × IsNeededWith blocking U i H needs
IsJudgementWith blocking U i H (Below other) = IsLeastOver U i H other

-- what becomes of task i by the ceilings that mutexes are given, with these tasks above it, the lowest first
abbrev pub IsJudgementBy : List Task → (threads mutexes : List Setting) → (i : ℕ) → (above : List ℕ)
    → Judgement → Type 0
IsJudgementBy U threads mutexes i above judgement =
    IsJudgementWith
    (blocking_at (ceiling_in U threads mutexes) (thread_number U threads i) U i (among above))
    U i (among above) judgement

-- of each task of an order, with those after it above it
abbrev pub AllJudgedBy : List Task → (threads mutexes : List Setting) → List JudgedTask → Type 0
AllJudgedBy U threads mutexes [] = Unit {0}
AllJudgedBy U threads mutexes (j ∷ above) =
    IsJudgementBy U threads mutexes j.task (order_judged above) j.judgement
    × AllJudgedBy U threads mutexes above

-- ---- a text
-- rows, whose numbers count so, are settings of a set, perhaps with raised ceilings: they give this order, the lowest first,
-- and by their ceilings this becomes of its tasks
pub record IsRowsJudgement (lower : Bool) (U : List Task) (rows : List SettingRow)
    (judged : List JudgedTask) : Type 0 where
  pub sound : given_rows_fault lower U (Ok rows) ≡ None
  pub by_numbers : IsOrderBy U (heights lower (threads_of rows)) (order_judged judged)
  pub each : AllJudgedBy U (heights lower (threads_of rows)) (heights lower (mutexes_of rows)) judged

-- the same of a text
pub record IsTextJudgement (lower : Bool) (U : List Task) (text : List ℕ) (judged : List JudgedTask) :
    Type 0 where
  pub sound : given_fault_by lower U text ≡ None
  pub rows : List SettingRow
  pub read : rows_in text ≡ Ok rows
  pub by_rows : IsRowsJudgement lower U rows judged
