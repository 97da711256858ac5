-- The lines of an explanation.
use Rattle.std.specs.Prelude.{◌==◌, ℕ, ◌+◌, ◌-◌, min, List, [], ◌∷◌, ◌++◌, codes, Option, Some, None, if◌then◌else◌}
use Rattle.std.specs.Fmt.{decimal}
use Rattle.std.specs.List.{find}
use Rattle.task_sheet.specs.Sheet.{Task, task_at}
use Rattle.task_sheet.specs.Overheads.{overhead_of}
use Rattle.task_sheet.specs.Locks.{uses}
use Rattle.lines.specs.Naming.{name_at, named}
use Rattle.task_lines.specs.Teams.{team_words}
use Rattle.task_lines.specs.declared.owner.Owner.{Owner}
use Rattle.explain.specs.Parts.{AboveData, PartsData}
use Rattle.explain.specs.Blocking.{BlockerData}
use Rattle.explain.specs.Load.{load_of}
use Rattle.explain.specs.declared.parts.Interruption.{Interruption}
use Rattle.explain.specs.declared.accounts.Account.{Account}
use Rattle.explain.specs.declared.needs.Need.{Need}
use Rattle.explain.specs.declared.needs.Need.TheVariants.{Needs, MustBeAbove}

-- ---- parts
-- the task's own cost
abbrev pub cost_line : ℕ → List ℕ
cost_line cost = codes "  cost " ++ decimal cost ++ codes "\n"

-- a time of one kind; nothing where it is 0
abbrev pub time_line : List ℕ → ℕ → List ℕ
time_line kind time =
    if time == 0 then [] else codes "  " ++ kind ++ codes " " ++ decimal time ++ codes "\n"

-- what is a task's own of a cost, and what its node's; together they are the cost
abbrev pub cost_lines : Task → ℕ → List ℕ
cost_lines t cost =
    cost_line (cost - overhead_of t) ++ time_line (codes "node") (min (overhead_of t) cost)

-- of the tasks above, in their order, the first that uses a lock
abbrev pub first_user : List Task → List ℕ → List AboveData → Option AboveData
first_user U lock above = find (λ a. uses (task_at U a.task) lock) above

abbrev pub user_words : List Task → Option AboveData → List ℕ
user_words U None = []
user_words U (Some a) = codes ", ceiling by " ++ name_at U a.task

-- behind a lock by which a section blocks a task: nothing where the task uses it itself, else the first above that does,
-- whose use takes the lock's ceiling above the task (Sha, Rajkumar, Lehoczky 1990)
abbrev pub ceiling_words : List Task → ℕ → List AboveData → List ℕ → List ℕ
ceiling_words U task above lock =
    if uses (task_at U task) lock then [] else user_words U (first_user U lock above)

-- a section that blocks a task below these, whose place is counted from 1, with the team of the task that has it
abbrev pub blocker_line : List Owner → List Task → ℕ → List AboveData → BlockerData → List ℕ
blocker_line owners U task above b =
    codes "  blocked " ++ decimal b.len ++ codes " by " ++ name_at U b.task ++ codes " section "
    ++ decimal (b.place + 1)
    ++ codes " lock " ++ b.lock ++ ceiling_words U task above b.lock ++ team_words owners U b.task
    ++ codes "\n"

-- the section that blocks it; nothing where none does
abbrev pub blocked_line : List Owner → List Task → ℕ → List AboveData → Option BlockerData → List ℕ
blocked_line owners U task above None = []
blocked_line owners U task above (Some b) = blocker_line owners U task above b

-- the jobs of a task above, with its team
abbrev pub above_line : List Owner → List Task → AboveData → List ℕ
above_line owners U a =
    codes "  above " ++ name_at U a.task ++ codes " " ++ decimal a.jobs ++ codes " jobs "
    ++ decimal a.time ++ team_words owners U a.task ++ codes "\n"

-- those of each task above, in their order
abbrev pub above_lines : List Owner → List Task → List AboveData → List ℕ
above_lines owners U [] = []
above_lines owners U (a ∷ above) = above_line owners U a ++ above_lines owners U above

-- the jobs of an interrupt, which has a number; nothing where they take nothing
abbrev pub interrupt_line : ℕ → Interruption → List ℕ
interrupt_line number x =
    if x.time == 0 then []
    else codes "  interrupt " ++ decimal number ++ codes " " ++ decimal x.jobs ++ codes " jobs "
    ++ decimal x.time ++ codes "\n"

-- those of each interrupt, of which the first has a number
abbrev pub interrupt_lines : ℕ → List Interruption → List ℕ
interrupt_lines number [] = []
interrupt_lines number (x ∷ interrupts) =
    interrupt_line number x ++ interrupt_lines (number + 1) interrupts

-- what timers and interrupts take
abbrev pub interrupted_lines : PartsData → List ℕ
interrupted_lines parts =
    time_line (codes "timers") parts.timers ++ interrupt_lines 1 parts.interrupts

-- the parts of a time of a task, each once and where it is above 0
abbrev pub parts_lines : List Owner → List Task → ℕ → PartsData → List ℕ
parts_lines owners U task parts =
    cost_lines (task_at U task) parts.cost ++ time_line (codes "jitter") parts.jitter
    ++ blocked_line owners U task parts.above parts.blocker
    ++ above_lines owners U parts.above ++ interrupted_lines parts

-- ---- times
-- a task, its time, its deadline and its team
abbrev pub account_line : List Owner → List Task → Account → List ℕ
account_line owners U a =
    name_at U a.task ++ codes " " ++ decimal a.time ++ codes " of " ++ decimal a.deadline
    ++ team_words owners U a.task ++ codes "\n"

-- the same, and then the parts of the time
abbrev pub account_lines : List Owner → List Task → Account → List ℕ
account_lines owners U a = account_line owners U a ++ parts_lines owners U a.task a.parts

-- those of a level, which has a number
abbrev pub level_account_lines : List Owner → List Task → ℕ → Account → List ℕ
level_account_lines owners U number a = decimal number ++ codes " " ++ account_lines owners U a

-- why a task of a conflict may not stand below the others
abbrev pub need_lines : List Owner → List Task → Need → List ℕ
need_lines owners U (Needs a) = account_lines owners U a
need_lines owners U (MustBeAbove task other) =
    name_at U task ++ codes " must be above " ++ name_at U other ++ codes "\n"

-- those of each task
abbrev pub needs_lines : List Owner → List Task → List Need → List ℕ
needs_lines owners U [] = []
needs_lines owners U (n ∷ needs) = need_lines owners U n ++ needs_lines owners U needs

-- ---- a set
-- the tasks of a conflict, by rank
abbrev pub conflict_line : List Task → List ℕ → List ℕ
conflict_line U tasks = codes "conflict" ++ named U tasks ++ codes "\n"

-- the load of a set, in millionths
abbrev pub load_line : List Task → List ℕ
load_line U = codes "load " ++ decimal (load_of U) ++ codes "\n"
