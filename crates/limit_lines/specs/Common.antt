-- The lines that are of no one task: of the interrupts, of what the node takes, and of the locks.
use Rattle.std.specs.Prelude.{◌≡◌, ◌⊎◌, ℕ, zero, suc, ◌+◌, ◌==◌, Bool, true, false, List, [], ◌++◌, length, codes, Option, Some, None, if◌then◌else◌}
use Rattle.std.specs.Fmt.{decimal}
use Rattle.task_sheet.specs.declared.node.Node.{Node}
use Rattle.task_sheet.specs.Sheet.{Task, task_at, no_overhead, same_node}
use Rattle.task_sheet.specs.TaskSet.{IsTaskSet}
use Rattle.overheads.specs.Padding.{padding_fault}
use Rattle.overheads.specs.declared.padding.PadFault.{PadFault}
use Rattle.overheads.specs.declared.padding.PadFault.TheVariants.{CostPastPeriod, JitterPastDeadline, OutOfMemory}
use Rattle.owners.specs.Owners.{interrupt_words}
use Rattle.task_lines.specs.declared.owner.Owner.{Owner}
use Rattle.limits.specs.declared.number.Number.TheVariants.{InterruptCost, InterruptPeriod}
use Rattle.limits.specs.declared.shared.Shared.{Shared}
use Rattle.limits.specs.declared.shared.Shared.TheVariants.{Job, Lock, Release, Late}
use Rattle.limits.specs.Shared.{AnswersShared, most_shared, shared_of, with_shared}
use Rattle.limits.specs.Written.{node_of, written}
use Rattle.limit_lines.specs.LimitLines.{IsNumberLine, values_words}
use Rattle.limit_lines.specs.Locks.{AreLockLines}

-- ---- interrupts
-- the lines of the interrupt at a place on the account of task i: its cost and its period
abbrev pub AreInterruptLines : List Owner → List Task → Option (List ℕ) → (i place : ℕ)
    → List ℕ → Type 0
AreInterruptLines owners U order i place text =
    (cost : List ℕ) × (period : List ℕ)
    × IsNumberLine (interrupt_words owners place) false U order i (InterruptCost place) cost
    × IsNumberLine (interrupt_words owners place) false U order i (InterruptPeriod place) period
    × (text ≡ cost ++ period)

-- those of the first on its account
abbrev pub AreAccountLines : List Owner → List Task → Option (List ℕ) → (i count : ℕ)
    → List ℕ → Type 0
AreAccountLines owners U order i zero text = text ≡ []
AreAccountLines owners U order i (suc place) text =
    (front : List ℕ) × (lines : List ℕ) × AreAccountLines owners U order i place front
    × AreInterruptLines owners U order i place lines
    × (text ≡ front ++ lines)

-- those of all on the accounts of the first tasks
abbrev pub AreInterruptsLines : List Owner → List Task → Option (List ℕ) → (count : ℕ)
    → List ℕ → Type 0
AreInterruptsLines owners U order zero text = text ≡ []
AreInterruptsLines owners U order (suc i) text =
    (front : List ℕ) × (lines : List ℕ) × AreInterruptsLines owners U order i front
    × AreAccountLines owners U order i (length (task_at U i).interrupts) lines
    × (text ≡ front ++ lines)

-- ---- the node
-- what a line calls a number of the node
abbrev pub shared_label : Shared → List ℕ
shared_label Job = codes " job "
shared_label Lock = codes " lock "
shared_label Release = codes " release "
shared_label Late = codes " late "

-- what of which task leaves no room
abbrev pub fault_words : PadFault → List ℕ
fault_words (CostPastPeriod name) = codes " by " ++ name ++ codes " period"
fault_words (JitterPastDeadline name) = codes " by " ++ name ++ codes " deadline"
fault_words OutOfMemory = []

-- the same, where there is no room
abbrev pub room_words : Option PadFault → List ℕ
room_words None = []
room_words (Some fault) = fault_words fault

-- a timer at this value is all of a job
abbrev pub is_whole : Shared → Node → ℕ → Bool
is_whole Release node most = most == node.job
is_whole number node most = false

-- what holds the number at this value: the job a timer; the greatest value of all; the period of the first task that has no
-- room for one more, or its deadline. Nothing where there may be one further
abbrev pub shared_held : List Task → Node → Shared → ℕ → List ℕ
shared_held W node number most =
    if is_whole number node most then codes " by job"
    else if most == most_shared number then codes " by " ++ decimal most
    else room_words (padding_fault (with_shared number node (most + 1)) W)

-- the line of a number of the node of tasks as they are written; nothing where no value helps
abbrev pub shared_line : List Task → Node → Shared → Option ℕ → Option ℕ → List ℕ
shared_line W node number own None = []
shared_line W node number own (Some most) =
    values_words (codes "node") (shared_label number) (shared_of number node) own most
    ++ shared_held W node number most ++ codes "\n"

-- the furthest value in the order, where one is given
abbrev pub AnswersSharedIn : List Task → Node → Option (List ℕ) → Shared → Option ℕ → Type 0
AnswersSharedIn W node (Some order) number own = AnswersShared W node number (Some order) own
AnswersSharedIn W node None number own = own ≡ None

-- a number of the node has a line: in an order that is given only where a value of it helps that
abbrev pub is_shared_told : Option (List ℕ) → (own : Option ℕ) → Bool
is_shared_told None own = true
is_shared_told (Some order) None = false
is_shared_told (Some order) (Some value) = true

-- the line of a number of the node; nothing where it has none
abbrev pub IsSharedTold : Bool → List Task → Node → Shared → (own : Option ℕ) → List ℕ → Type 0
IsSharedTold false W node number own text = text ≡ []
IsSharedTold true W node number own text =
    (most : Option ℕ) × AnswersShared W node number None most
    × (text ≡ shared_line W node number own most)

abbrev pub IsSharedLine : List Task → Node → Option (List ℕ) → Shared → List ℕ → Type 0
IsSharedLine W node order number text =
    (own : Option ℕ) × AnswersSharedIn W node order number own
    × IsSharedTold (is_shared_told order own) W node number own text

-- the lines of what the node takes of tasks as they are written
abbrev pub AreNodeLines : List Task → Node → Option (List ℕ) → List ℕ → Type 0
AreNodeLines W node order text =
    (job : List ℕ) × (lock : List ℕ) × (release : List ℕ) × (late : List ℕ)
    × IsSharedLine W node order Job job
    × IsSharedLine W node order Lock lock
    × IsSharedLine W node order Release release
    × IsSharedLine W node order Late late
    × (text ≡ job ++ lock ++ release ++ late)

-- the same; nothing where the node takes nothing
abbrev pub AreNodeLinesIf : (nothing : Bool) → List Task → Node → Option (List ℕ) → List ℕ → Type 0
AreNodeLinesIf true W node order text = text ≡ []
AreNodeLinesIf false W node order text = AreNodeLines W node order text

-- the same of a set with what its node takes; nothing where no document says it
abbrev pub AreNodeLinesOf : List Task → Option (List ℕ) → List ℕ → Type 0
AreNodeLinesOf U order text =
    (IsTaskSet (written U)
    × AreNodeLinesIf (same_node (node_of U) no_overhead) (written U) (node_of U) order text)
    ⊎ (¬ IsTaskSet (written U) × (text ≡ []))

-- ---- all of them
abbrev pub AreCommonLines : List Owner → List Task → Option (List ℕ) → List ℕ → Type 0
AreCommonLines owners U order text =
    (interrupts : List ℕ) × (node : List ℕ) × (locks : List ℕ)
    × AreInterruptsLines owners U order (length U) interrupts
    × AreNodeLinesOf U order node
    × AreLockLines owners U order locks
    × (text ≡ interrupts ++ node ++ locks)
