-- How long after a job's arrival a job of another task may arrive that is sure to read what the first one writes.
use Rattle.std.specs.Prelude.{◌≡◌, ◌≢◌, ℕ, ◌+◌, ◌-◌, ◌<◌, ◌≤◌, nat_lt, if◌then◌else◌, List, length}
use Rattle.task_sheet.specs.Sheet.{task_at}
use Rattle.ceiling_kernel.specs.Tick.{Node, Job, job_at, level_in_order, executed_before}
use Rattle.ceiling_kernel.specs.Waits.{lateness_of}
use Rattle.ceiling_kernel.specs.Bounds.{PassesBy, response_by}
use Rattle.chains.specs.Starts.{IsStartAt}

-- task i passes, with response r (Audsley et al. 1993)
pub record RespondsBy (node : Node) (i r : ℕ) : Type 0 where
  pub time : ℕ
  pub passes : PassesBy node i time
  pub response : response_by (task_at node.tasks i) time ≡ r

-- the handover from task i, of response r, to task c: where c stands below i, how late a job of i may be; above it, the
-- response less the cost of c
abbrev pub handover : Node → (i c r : ℕ) → ℕ
handover node i c r =
    if nat_lt (level_in_order node c) (level_in_order node i) then lateness_of (task_at node.tasks i)
    else r - (task_at node.tasks c).cost

-- a job of another task that arrives a handover or more after a job starts only behind that one's finish; that one's task has
-- to pass only where it stands below
abbrev pub HandoversHold : Node → List Job → Type 0
HandoversHold node jobs =
    (j k r s : ℕ) → j < length jobs → (job_at jobs j).task ≢ (job_at jobs k).task
    → (level_in_order node (job_at jobs j).task < level_in_order node (job_at jobs k).task
    → RespondsBy node (job_at jobs j).task r)
    → IsStartAt node jobs k s
    → (job_at jobs j).arrival + handover node (job_at jobs j).task (job_at jobs k).task r
    ≤ (job_at jobs k).arrival
    → (job_at jobs j).executes ≤ executed_before node jobs s j

-- A response counts the cost of each task above: so taking it off cuts nothing off, and a handover to a task above is no less
-- than one to a task below would be.
abbrev pub ResponsesCount : Node → Type 0
ResponsesCount node =
    (i c r : ℕ) → c < length node.tasks → RespondsBy node i r
    → level_in_order node i < level_in_order node c
    → lateness_of (task_at node.tasks i) + (task_at node.tasks i).cost + (task_at node.tasks c).cost
    ≤ r
