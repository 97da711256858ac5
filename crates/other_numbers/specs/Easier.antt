-- Sets that ask no more of the node: with no more cost and jitter, no more jobs in any window, no earlier deadlines, no longer
-- sections, timers that take no more, interrupts that come no more often and take no more. In which sense what is executed is
-- no more, `≼` says: `≤`, or at most so many thousandths.
use Rattle.std.specs.Prelude.{◌≡◌, ℕ, ◌≤◌, List, length}
use Rattle.std.specs.List.{AllZip}
use Rattle.task_sheet.specs.declared.node.Interrupt.{Interrupt}
use Rattle.task_sheet.specs.Sheet.{CriticalSection, Task, task_at}
use Rattle.task_sheet.specs.Demand.{jobs_within, releases_within}

module _ (◌≼◌ : ℕ → ℕ → Type 0) where
  infix 50 ◌≼◌
  -- the section has the locks of the other one, and is no longer
  pub record IsShorter (x y : CriticalSection) : Type 0 where
    pub locks : x.locks ≡ y.locks
    pub len : x.len ≼ y.len

  -- the interrupt comes no more often than the other one in any window, and takes no more
  pub record IsCheaper (x y : Interrupt) : Type 0 where
    pub rarer : (time : ℕ) → jobs_within x.period 0 time ≤ jobs_within y.period 0 time
    pub cost : x.cost ≼ y.cost

  -- the task asks no more than the other one, of the same name and the same names to outrank; section by section, and
  -- interrupt by interrupt
  pub record IsEasierBy (easy hard : Task) : Type 0 where
    pub name : easy.name ≡ hard.name
    pub outranks : easy.outranks ≡ hard.outranks
    pub cost : easy.cost ≼ hard.cost
    pub jitter : easy.jitter ≤ hard.jitter
    pub rarer : (time : ℕ) → releases_within easy time ≤ releases_within hard time
    pub deadline : hard.deadline ≤ easy.deadline
    pub sections : AllZip IsShorter easy.sections hard.sections
    pub release : easy.node.release ≼ hard.node.release
    pub interrupts : AllZip IsCheaper easy.interrupts hard.interrupts

  -- each task of a set asks no more than that of another one
  pub record AreEasierBy (easy hard : List Task) : Type 0 where
    pub count : length easy ≡ length hard
    pub each : (k : ℕ) → IsEasierBy (task_at easy k) (task_at hard k)

-- the same where no number is greater
abbrev pub IsEasier : Task → Task → Type 0
IsEasier = IsEasierBy ◌≤◌

-- and of sets
abbrev pub AreEasier : List Task → List Task → Type 0
AreEasier = AreEasierBy ◌≤◌
