-- The load of a set (Liu and Layland 1973).
use Rattle.std.specs.Prelude.{ℕ, List, [], ◌∷◌, ◌++◌, map}
use Rattle.loads.specs.Shares.{load_in}
use Rattle.loads.specs.declared.shares.Share.{Share}
use Rattle.task_sheet.specs.declared.node.Interrupt.{Interrupt}
use Rattle.task_sheet.specs.Sheet.{Task}

-- what a task takes in each of its periods
abbrev pub task_share : Task → Share
task_share t = record { cost = t.cost; period = t.period }

-- what its timer takes of whoever executes
abbrev pub timer_share : Task → Share
timer_share t = record { cost = t.node.release; period = t.period }

-- what an interrupt takes in each of its own
abbrev pub interrupt_share : Interrupt → Share
interrupt_share x = record { cost = x.cost; period = x.period }

-- what a task takes, its timer, and the interrupts on its account
abbrev pub shares_of : Task → List Share
shares_of t = task_share t ∷ timer_share t ∷ map interrupt_share t.interrupts

-- what all tasks of a set take, with all timers and interrupts
abbrev pub set_shares : List Task → List Share
set_shares [] = []
set_shares (t ∷ U) = shares_of t ++ set_shares U

-- ∑ costᵢ / periodᵢ of these, in millionths of the processor, rounded up once
abbrev pub load_of : List Task → ℕ
load_of U = load_in 1000000 (set_shares U)
