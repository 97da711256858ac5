-- The lines that say how far the numbers of a set may go.
use Rattle.std.specs.Prelude.{◌≡◌, ◌⊎◌, ℕ, zero, suc, ◌+◌, ◌-◌, ◌<◌, ◌==◌, Bool, true, false, ◌&&◌, ◌||◌, not, nat_lt, nat_le, List, [], ◌∷◌, ◌++◌, length, codes, Option, Some, None, option_map, if◌then◌else◌}
use Rattle.std.specs.Fmt.{decimal}
use Rattle.task_sheet.specs.declared.sheet.TheConstants.{PERIOD_FROM}
use Rattle.task_sheet.specs.declared.node.TheConstants.{INTERRUPT_FROM}
use Rattle.task_sheet.specs.Sheet.{Task, task_at}
use Rattle.task_sheet.specs.Overheads.{calls, overhead_of}
use Rattle.lines.specs.Known.{some_words}
use Rattle.lines.specs.Naming.{name_at}
use Rattle.assignment.specs.Places.{PlaceData}
use Rattle.assignment.specs.Placings.{tasks_of_places}
use Rattle.assignment.specs.declared.placing.Placing.{Placing}
use Rattle.assignment.specs.declared.placing.Placing.TheVariants.{Best, Stuck}
use Rattle.limits.specs.Numbers.{interrupt_at, section_at, value_of, with_number, AnswersFurthest}
use Rattle.limits.specs.InOrder.{AnswersFurthestIn}
use Rattle.limits.specs.Rooms.{most_len}
use Rattle.owners.specs.Clocks.{is_clocked}
use Rattle.owners.specs.Followers.{along}
use Rattle.task_lines.specs.declared.owner.Owner.{Owner}
use Rattle.limits.specs.declared.number.Number.{Number}
use Rattle.limits.specs.declared.number.Number.TheVariants.{Cost, Period, Deadline, Jitter, Len, InterruptCost, InterruptPeriod}
use Rattle.factor.specs.Factors.{AnswersFactor, AnswersSlowdown}
use Rattle.factor.specs.declared.Slowdown.{Slowdown}

-- the places of a placing's order; none after a no
abbrev pub places_in : Placing → Option (List PlaceData)
places_in (Best places) = Some places.items
places_in (Stuck members) = None

-- the order of a placing; nothing after a no
abbrev pub order_in : Placing → List ℕ
order_in (Best places) = tasks_of_places places.items
order_in (Stuck members) = []

-- the same, where it has one
abbrev pub order_given : Placing → Option (List ℕ)
order_given (Best places) = Some (tasks_of_places places.items)
order_given (Stuck members) = None

-- ---- a number
-- the length of the section at a place of a task, with those behind it that move along
abbrev pub len_at : List Owner → Task → ℕ → Number
len_at owners t k = Len k (along owners t.name k (length t.sections - (k + 1)))

-- the numbers of a task, one after the other: cost, period, deadline, jitter, and the lengths of its sections
abbrev pub number_at : List Owner → Task → ℕ → Number
number_at owners t zero = Cost
number_at owners t (suc zero) = Period
number_at owners t (suc (suc zero)) = Deadline
number_at owners t (suc (suc (suc zero))) = Jitter
number_at owners t (suc (suc (suc (suc k)))) = len_at owners t k

-- what a line calls a number; sections count from 1
abbrev pub label_of : Number → List ℕ
label_of Cost = codes " cost "
label_of Period = codes " period "
label_of Deadline = codes " deadline "
label_of Jitter = codes " jitter "
label_of (Len k along) = codes " section " ++ decimal (k + 1) ++ codes " len "
label_of (InterruptCost k) = codes " cost "
label_of (InterruptPeriod k) = codes " period "

-- the furthest value of the number of task i with which the order passes, where one is given
abbrev pub AnswersIn : List Task → Option (List ℕ) → ℕ → Number → Option ℕ → Type 0
AnswersIn U (Some order) i number own = AnswersFurthestIn U order i number own
AnswersIn U None i number own = own ≡ None

-- what of a number is the node's: of a cost what a job takes beside its own work, but for its timer; of a jitter how late
-- the node may be; of the length of a section the calls on its locks
abbrev pub node_part : Number → Task → ℕ
node_part Cost t = overhead_of t
node_part Period t = 0
node_part Deadline t = 0
node_part Jitter t = t.node.late
node_part (Len k along) t = calls t.node (section_at t.sections k)
node_part (InterruptCost k) t = 0
node_part (InterruptPeriod k) t = 0

-- less this, where there is a number
abbrev pub less_of : ℕ → Option ℕ → Option ℕ
less_of part None = None
less_of part (Some value) = Some (value - part)

-- where this is the node's, such a number is left of a value: a cost and a length are above 0
abbrev pub leaves_own : Number → (part value : ℕ) → Bool
leaves_own Cost part value = nat_lt part value
leaves_own Period part value = true
leaves_own Deadline part value = true
leaves_own Jitter part value = nat_le part value
leaves_own (Len k along) part value = nat_lt part value
leaves_own (InterruptCost k) part value = true
leaves_own (InterruptPeriod k) part value = true

-- a number and a space, and nothing for none
abbrev pub before_words : Option ℕ → List ℕ
before_words None = []
before_words (Some n) = decimal n ++ codes " "

-- a number stays as it was, where there is one
abbrev pub stays : (was : ℕ) → Option ℕ → Bool
stays was None = true
stays was (Some n) = n == was

-- what another number is with the furthest value in the order, where there is one, and with that in any; nothing where it
-- stays as it was with both
abbrev pub moved_words : Number → (was : ℕ) → (own : Option ℕ) → (most : ℕ) → List ℕ
moved_words other was own most =
    if stays was own && (most == was) then []
    else codes " with" ++ label_of other ++ before_words own ++ decimal most

-- what goes along with the furthest values of a number: the deadline with a period, the period with a deadline
abbrev pub along_words : Number → Task → (own : Option ℕ) → (most : ℕ) → List ℕ
along_words Cost t own most = []
along_words Period t own most =
    moved_words Deadline t.deadline (option_map (λ value. (with_number Period t value).deadline) own)
    (with_number Period t most).deadline
along_words Deadline t own most =
    moved_words Period t.period (option_map (λ value. (with_number Deadline t value).period) own)
    (with_number Deadline t most).period
along_words Jitter t own most = []
along_words (Len k along) t own most = []
along_words (InterruptCost k) t own most = []
along_words (InterruptPeriod k) t own most = []

-- ---- what holds a number where its sheet may have none further
-- the word, where it is so
abbrev pub word_if : Bool → List ℕ → List ℕ
word_if holds word = if holds then word else []

-- what stands behind the section at a place: the next one, or the end of the task
abbrev pub end_words : Task → ℕ → List ℕ
end_words t k =
    if nat_lt (k + 1) (length t.sections) then codes " by section " ++ decimal (k + 2)
    else codes " by cost"

-- what holds a number at this value: the period a cost, with its timer; the cost, with it, the jitter or the least period of all a period; the jitter
-- a deadline, the deadline a jitter; the next section that doesn't move along or the cost a length; of an interrupt alike. Nothing where its sheet
-- may have one further
abbrev pub held_words : Number → Task → ℕ → List ℕ
held_words Cost t most = word_if (most == t.period - t.node.release) (codes " by period")
held_words Period t most =
    if most == t.cost + t.node.release then codes " by cost" else if most == t.jitter + 1 then codes " by jitter"
    else word_if (most == PERIOD_FROM) (codes " by 1000")
held_words Deadline t most = word_if (most == t.jitter + 1) (codes " by jitter")
held_words Jitter t most = word_if (most == t.deadline - 1) (codes " by deadline")
held_words (Len k along) t most =
    if most == most_len t.cost t.sections k along then end_words t (k + along) else []
held_words (InterruptCost k) t most =
    word_if (most == (interrupt_at t.interrupts k).period) (codes " by period")
held_words (InterruptPeriod k) t most =
    if most == (interrupt_at t.interrupts k).cost then codes " by cost"
    else word_if (most == INTERRUPT_FROM) (codes " by 100")

-- whose the number is and what it is, its value, the furthest in the order, and the furthest in any
abbrev pub values_words : (whose label : List ℕ) → ℕ → Option ℕ → ℕ → List ℕ
values_words whose label value own most =
    whose ++ label ++ decimal value ++ codes " " ++ some_words own ++ codes " " ++ decimal most

-- a number of a task, each of its values less what is the node's, what goes along, and what holds the last; nothing where
-- no value helps, or none that leaves the task one of its own
abbrev pub number_line : (whose : List ℕ) → Task → Number → Option ℕ → Option ℕ → List ℕ
number_line whose t number own None = []
number_line whose t number own (Some most) =
    let part = node_part number t in
    if leaves_own number part most then
    values_words whose (label_of number) (value_of number t - part) (less_of part own) (most - part)
    ++ along_words number t own most ++ held_words number t most ++ codes "\n"
    else []

-- this furthest value in an order leaves the task a number of its own
abbrev pub helps_own : Number → Task → Option ℕ → Bool
helps_own number t None = false
helps_own number t (Some value) = leaves_own number (node_part number t) value

-- a number has a line: in an order that is given only where a value of it helps that
abbrev pub is_told : Number → Task → Option (List ℕ) → (own : Option ℕ) → Bool
is_told number t None own = true
is_told number t (Some order) own = helps_own number t own

-- ---- tasks on a clock
-- with this value of a number the task's period stays
abbrev pub keeps_period : Number → Task → ℕ → Bool
keeps_period Cost t value = true
keeps_period Period t value = value == t.period
keeps_period Deadline t value = nat_le value t.period
keeps_period Jitter t value = true
keeps_period (Len k along) t value = true
keeps_period (InterruptCost k) t value = true
keeps_period (InterruptPeriod k) t value = true

-- a value that may be written: of a task on a clock one with which its period stays, for another may be refused
abbrev pub written_if : (clocked : Bool) → Number → Task → Option ℕ → Option ℕ
written_if clocked number t None = None
written_if clocked number t (Some value) =
    if not clocked || keeps_period number t value then Some value else None

-- the line of a number of task i, which is said to be of this; nothing where it has none
abbrev pub IsLineIf : Bool → (whose : List ℕ) → (clocked : Bool) → List Task → ℕ → Number → (own : Option ℕ)
    → List ℕ → Type 0
IsLineIf false whose clocked U i number own text = text ≡ []
IsLineIf true whose clocked U i number own text =
    (most : Option ℕ) × AnswersFurthest U i number most
    × (text ≡ number_line whose (task_at U i) number own (written_if clocked number (task_at U i) most))

abbrev pub IsNumberLine : (whose : List ℕ) → (clocked : Bool) → List Task → Option (List ℕ) → ℕ → Number
    → List ℕ → Type 0
IsNumberLine whose clocked U order i number text =
    (own : Option ℕ) × AnswersIn U order i number own
    × (let said = written_if clocked number (task_at U i) own in
    IsLineIf (is_told number (task_at U i) order said) whose clocked U i number said text)

-- the text is a line for each of the first numbers of task i
abbrev pub AreNumberLines : List Owner → List Task → Option (List ℕ) → ℕ → ℕ → List ℕ → Type 0
AreNumberLines owners U order i zero text = text ≡ []
AreNumberLines owners U order i (suc k) text =
    (front : List ℕ) × (line : List ℕ) × AreNumberLines owners U order i k front
    × IsNumberLine (name_at U i) (is_clocked owners i) U order i (number_at owners (task_at U i) k) line
    × (text ≡ front ++ line)

-- ---- a task
-- what the response of a task in these places leaves of its deadline
abbrev pub slack_in : ℕ → List PlaceData → ℕ → Option ℕ
slack_in deadline [] i = None
slack_in deadline (place ∷ places) i =
    if place.task == i then Some (deadline - place.response) else slack_in deadline places i

-- the same, where there are places
abbrev pub slack_of : List Task → Option (List PlaceData) → ℕ → Option ℕ
slack_of U (Some places) i = slack_in (task_at U i).deadline places i
slack_of U None i = None

-- the slack of task i; nothing where there is none
abbrev pub slack_line : List Task → ℕ → Option ℕ → List ℕ
slack_line U i None = []
slack_line U i (Some slack) = name_at U i ++ codes " slack " ++ decimal slack ++ codes "\n"

-- the lines of task i: its numbers, and its slack in places
abbrev pub AreTaskLines : List Owner → List Task → Option (List ℕ) → Option (List PlaceData) → ℕ → List ℕ
    → Type 0
AreTaskLines owners U order places i text =
    (numbers : List ℕ) × AreNumberLines owners U order i (4 + length (task_at U i).sections) numbers
    × (text ≡ numbers ++ slack_line U i (slack_of U places i))

-- ---- all at once
-- the greatest factor on all execution with which the order passes, where one is given
abbrev pub AnswersFactorIn : List Task → Option (List ℕ) → Option ℕ → Type 0
AnswersFactorIn U (Some order) own = AnswersFactor U (Some order) own
AnswersFactorIn U None own = own ≡ None

-- that factor, the greatest with which some order passes, and the task that fails first past the latter; `-` where no
-- factor helps
abbrev pub factor_line : List Task → Option ℕ → Option Slowdown → List ℕ
factor_line U own (Some found) =
    codes "all " ++ some_words own ++ codes " " ++ decimal found.most ++ codes " "
    ++ name_at U found.task
    ++ codes "\n"
factor_line U own None = codes "all - -\n"

-- the line of the factors, and nothing for the empty set
abbrev pub IsLast : List Task → Option (List ℕ) → List ℕ → Type 0
IsLast U order text =
    ((length U ≡ 0) × (text ≡ []))
    ⊎ ((0 < length U)
    × ((own : Option ℕ) × (found : Option Slowdown) × AnswersFactorIn U order own
    × AnswersSlowdown U found
    × (text ≡ factor_line U own found)))
