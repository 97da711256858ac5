-- A task with other numbers, sections and interrupts.
use Rattle.std.specs.Prelude.{ℕ, List}
use Rattle.task_sheet.specs.declared.node.Interrupt.{Interrupt}
use Rattle.task_sheet.specs.Sheet.{CriticalSection, Task}

-- the task with these
abbrev pub remade : Task → (period deadline cost jitter : ℕ) → List CriticalSection → List Interrupt
    → Task
remade t period deadline cost jitter sections interrupts =
    record t {
      period = period;
      deadline = deadline;
      cost = cost;
      jitter = jitter;
      sections = sections;
      interrupts = interrupts;
    }
