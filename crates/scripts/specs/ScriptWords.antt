-- What the words of a script's line say.
use Rattle.std.specs.Prelude.{ℕ, Bool, true, false, ◌==◌, ◌&&◌, nat_le, nat_lt, List, [], ◌∷◌, length, Option, Some, None, Result, Ok, Err, bytes_eq, codes, if◌then◌else◌}
use Rattle.std.specs.List.{slice_split, list_all}
use Rattle.task_sheet.specs.Sheet.{CriticalSection, OutranksData, Named, AllOthers, Task, no_overhead, task_of, with_jitter, outranking, with_node, interrupted}
use Rattle.task_sheet.specs.SheetFault.{sheet_fault, outranks_fault}
use Rattle.task_sheet.specs.TreeFault.{is_interrupt}
use Rattle.task_sheet.specs.declared.node.Node.{Node}
use Rattle.task_sheet.specs.declared.node.Interrupt.{Interrupt}
use Rattle.task_sheet.specs.declared.node.TheConstants.{INTERRUPT_LIMIT}
use Rattle.task_sheet.specs.declared.sheet.OutranksCause.{OutranksCause}
use Rattle.task_sheet.specs.declared.sheet.SheetCause.{SheetCause}
use Rattle.task_sheet.specs.declared.sheet.TheConstants.{PERIOD_FROM, PERIOD_TO}
use Rattle.drafts.specs.declared.team.TheConstants.{TEAM_LIMIT}
use Rattle.lines.specs.Steps.{◌>>=◌, each_in}
use Rattle.lines.specs.Words.{name_in, number_in}
use Rattle.scripts.specs.declared.line.Row.{Row}
use Rattle.scripts.specs.declared.line.Row.TheVariants.{Open, Put, Remove, Found, Test, Commit, Abandon}
use Rattle.scripts.specs.declared.line.RowFault.{RowFault}
use Rattle.scripts.specs.declared.line.RowFault.TheVariants.{Bad, Sheet, BadJitter, Outranks, BadOverhead, BadInterrupt}

-- what is wanted has to be there
abbrev pub or_bad : {A : Type 0} → Option A → Result A RowFault
or_bad None = Err Bad
or_bad (Some x) = Ok x

-- the first word, and the words behind it
abbrev pub head_word : List (List ℕ) → Result (List ℕ × List (List ℕ)) RowFault
head_word [] = Err Bad
head_word (w ∷ ws) = Ok (w, ws)

-- no word may be left
abbrev pub at_end : {A : Type 0} → List (List ℕ) → A → Result A RowFault
at_end [] x = Ok x
at_end (w ∷ ws) x = Err Bad

-- no word is left
abbrev pub is_over : List (List ℕ) → Bool
is_over [] = true
is_over (w ∷ ws) = false

-- ---- words
-- the number, where it is from 1 to a limit
abbrev pub up_to : ℕ → Option ℕ → Option ℕ
up_to most None = None
up_to most (Some n) = if nat_le 1 n && nat_le n most then Some n else None

-- the number of a draft, where so many were opened
abbrev pub draft_in : ℕ → List ℕ → Option ℕ
draft_in opened word = up_to opened (number_in word)

-- a team
abbrev pub team_in : List ℕ → Option ℕ
team_in word = up_to TEAM_LIMIT (number_in word)

-- the parts of a list of two
abbrev pub pair_of : List (List ℕ) → Option (List ℕ × List ℕ)
pair_of [] = None
pair_of (front ∷ []) = None
pair_of (front ∷ back ∷ []) = Some (front, back)
pair_of (front ∷ back ∷ more ∷ rest) = None

-- the parts of a text before and behind a byte that stands in it once
abbrev pub round : ℕ → List ℕ → Option (List ℕ × List ℕ)
round byte text = pair_of (slice_split (λ b. b == byte) text)

-- ---- first words
-- a number, and the words behind it
unfoldable pub next_number : List (List ℕ) → Result (ℕ × List (List ℕ)) RowFault
next_number ws = do
  w ← head_word ws
  n ← or_bad (number_in w.0)
  Ok (n, w.1)

-- a draft, and the words behind it
unfoldable pub next_draft : ℕ → List (List ℕ) → Result (ℕ × List (List ℕ)) RowFault
next_draft opened ws = do
  w ← head_word ws
  n ← or_bad (draft_in opened w.0)
  Ok (n, w.1)

-- a name, and the words behind it
unfoldable pub next_name : List (List ℕ) → Result (List ℕ × List (List ℕ)) RowFault
next_name ws = do
  w ← head_word ws
  n ← or_bad (name_in w.0)
  Ok (n, w.1)

-- ---- sections
-- the names that words are
abbrev pub word_names : List (List ℕ) → Result (List (List ℕ)) RowFault
word_names ws = each_in (λ w. or_bad (name_in w)) ws

-- a section as `LOCK+LOCK@AT:LEN`
unfoldable pub section_in : List ℕ → Result CriticalSection RowFault
section_in word = do
  sides ← or_bad (round 64 word)
  span ← or_bad (round 58 sides.1)
  at ← or_bad (number_in span.0)
  len ← or_bad (number_in span.1)
  locks ← word_names (slice_split (λ b. b == 43) sides.0)
  Ok (record { locks = locks; at = at; len = len })

-- the sections that words are
abbrev pub sections_in : List (List ℕ) → Result (List CriticalSection) RowFault
sections_in ws = each_in section_in ws

-- ---- fields that may be left out
-- the value of these two sides, where the first is the key
abbrev pub value_of : List ℕ → Option (List ℕ × List ℕ) → Option (List ℕ)
value_of key None = None
value_of key (Some sides) = if bytes_eq sides.0 key then Some sides.1 else None

-- the value of a word `KEY=VALUE`
abbrev pub value_in : List ℕ → List ℕ → Option (List ℕ)
value_in key word = value_of key (round 61 word)

-- the value that the first word has, and the words behind it; or no value, and all words
abbrev pub field_case : Option (List ℕ) → List ℕ → List (List ℕ) → Option (List ℕ) × List (List ℕ)
field_case (Some value) w ws = (Some value, ws)
field_case None w ws = (None, w ∷ ws)

-- the value of the field `KEY=VALUE`, if it comes next, and the words behind it
unfoldable pub next_field : List ℕ → List (List ℕ) → Option (List ℕ) × List (List ℕ)
next_field key [] = (None, [])
next_field key (w ∷ ws) = field_case (value_in key w) w ws

-- the number that a value is, and 0 of no value
abbrev pub value_or_zero : Option (List ℕ) → Result ℕ RowFault
value_or_zero None = Ok 0
value_or_zero (Some text) = or_bad (number_in text)

-- how all others are written
abbrev pub all_sign : List ℕ
all_sign = codes "*"

-- above which tasks one must stand, as a value says: all others, or those named between the signs `+`
unfoldable pub over_in : List ℕ → Result OutranksData RowFault
over_in text =
    if bytes_eq text all_sign then Ok AllOthers
    else (word_names (slice_split (λ b. b == 43) text) >>= λ names. Ok (Named names))

-- the same, and no name of no value
abbrev pub over_or_none : Option (List ℕ) → Result OutranksData RowFault
over_or_none None = Ok (Named [])
over_or_none (Some text) = over_in text

-- what the node takes, as the words JOB, LOCK, RELEASE and LATE say
unfoldable pub node_of : List (List ℕ) → Result Node RowFault
node_of (job ∷ lock ∷ release ∷ late ∷ []) = do
  job ← or_bad (number_in job)
  lock ← or_bad (number_in lock)
  release ← or_bad (number_in release)
  late ← or_bad (number_in late)
  Ok (record { job = job; lock = lock; late = late; release = release })
node_of _ = Err Bad

-- the same, as a value says between the signs `+`; a node that takes nothing of no value
abbrev pub node_or_none : Option (List ℕ) → Result Node RowFault
node_or_none None = Ok no_overhead
node_or_none (Some text) = node_of (slice_split (λ b. b == 43) text)

-- an interrupt as `PERIOD:COST`
unfoldable pub interrupt_in : List ℕ → Result Interrupt RowFault
interrupt_in word = do
  sides ← or_bad (round 58 word)
  period ← or_bad (number_in sides.0)
  cost ← or_bad (number_in sides.1)
  Ok (record { period = period; cost = cost })

-- the interrupts that a value says between the signs `+`; none of no value
abbrev pub interrupts_or_none : Option (List ℕ) → Result (List Interrupt) RowFault
interrupts_or_none None = Ok []
interrupts_or_none (Some text) = each_in interrupt_in (slice_split (λ b. b == 43) text)

-- ---- lines, by the words behind the first
-- a valid sheet
abbrev pub valid : Option SheetCause → Task → Result Task RowFault
valid None task = Ok task
valid (Some cause) task = Err (Sheet cause)

-- the sheet with a jitter, which is below its deadline
abbrev pub sheet_with_jitter : ℕ → Task → Result Task RowFault
sheet_with_jitter jitter task =
    if nat_lt jitter task.deadline then Ok (with_jitter task jitter) else Err BadJitter

-- a valid sheet of a task that must stand above others
abbrev pub valid_over : Option OutranksCause → Task → Result Task RowFault
valid_over None task = Ok task
valid_over (Some cause) task = Err (Outranks cause)

-- what a node takes is within the limits
abbrev pub are_overheads : Node → Bool
are_overheads node =
    nat_le node.job PERIOD_TO
    && (nat_le node.lock PERIOD_TO
    && (nat_le node.late PERIOD_TO && nat_le node.release PERIOD_FROM))

-- the sheet of a node whose overheads are within the limits
abbrev pub sheet_of_node : Node → Task → Result Task RowFault
sheet_of_node node task =
    if are_overheads node then Ok (with_node task node) else Err BadOverhead

-- not too many interrupts, and each within the limits
abbrev pub are_interrupts : List Interrupt → Bool
are_interrupts xs = nat_le (length xs) INTERRUPT_LIMIT && list_all is_interrupt xs

-- the sheet with interrupts that are within the limits
abbrev pub sheet_interrupted : List Interrupt → Task → Result Task RowFault
sheet_interrupted xs task =
    if are_interrupts xs then Ok (interrupted task xs) else Err BadInterrupt

-- the valid sheet of these values and of the sections that words are
unfoldable pub made_in : (name : List ℕ) (weight period deadline cost : ℕ) → List (List ℕ)
    → Result Task RowFault
made_in name weight period deadline cost ws = do
  sections ← sections_in ws
  let task : Task = task_of name weight period deadline cost sections
  valid (sheet_fault task) task

-- the values of a sheet
unfoldable pub sheet_in : List (List ℕ) → Result Task RowFault
sheet_in ws = do
  name ← next_name ws
  weight ← next_number name.1
  period ← next_number weight.1
  deadline ← next_number period.1
  cost ← next_number deadline.1
  let delay : Option (List ℕ) × List (List ℕ) = next_field (codes "j") cost.1
  jitter ← value_or_zero delay.0
  let over : Option (List ℕ) × List (List ℕ) = next_field (codes "over") delay.1
  outranks ← over_or_none over.0
  let takes : Option (List ℕ) × List (List ℕ) = next_field (codes "node") over.1
  node ← node_or_none takes.0
  let irq : Option (List ℕ) × List (List ℕ) = next_field (codes "irq") takes.1
  interrupts ← interrupts_or_none irq.0
  sheet ← made_in name.0 weight.0 period.0 deadline.0 cost.0 irq.1
  later ← sheet_with_jitter jitter sheet
  above ← valid_over (outranks_fault name.0 outranks) (outranking later outranks)
  padded ← sheet_of_node node above
  sheet_interrupted interrupts padded

-- what the words behind `open` say
unfoldable pub open_in : List (List ℕ) → Result Row RowFault
open_in ws = do
  w ← head_word ws
  team ← or_bad (team_in w.0)
  at_end w.1 (Open team)

-- what the words behind `put` say
unfoldable pub put_in : ℕ → List (List ℕ) → Result Row RowFault
put_in opened ws = do
  draft ← next_draft opened ws
  sheet ← sheet_in draft.1
  Ok (Put draft.0 sheet)

-- what the words behind `remove` say
unfoldable pub remove_in : ℕ → List (List ℕ) → Result Row RowFault
remove_in opened ws = do
  draft ← next_draft opened ws
  name ← next_name draft.1
  at_end name.1 (Remove draft.0 name.0)

-- the draft that is asked: the last word, or the draft itself
unfoldable pub other_in : ℕ → ℕ → List (List ℕ) → Result ℕ RowFault
other_in opened draft [] = Ok draft
other_in opened draft (w ∷ ws) = do
  other ← or_bad (draft_in opened w)
  at_end ws other

-- what the words behind `found` say
unfoldable pub found_in : ℕ → List (List ℕ) → Result Row RowFault
found_in opened ws = do
  draft ← next_draft opened ws
  name ← next_name draft.1
  other ← other_in opened draft.0 name.1
  Ok (Found draft.0 name.0 other)

-- a draft alone
unfoldable pub only_draft : ℕ → List (List ℕ) → Result ℕ RowFault
only_draft opened ws = do
  draft ← next_draft opened ws
  at_end draft.1 draft.0

-- ---- a line
-- what a line of this first word says
abbrev pub row_of : ℕ → List ℕ → List (List ℕ) → Result Row RowFault
row_of opened word ws =
    if bytes_eq word (codes "open") then open_in ws
    else if bytes_eq word (codes "put") then put_in opened ws
    else if bytes_eq word (codes "remove") then remove_in opened ws
    else if bytes_eq word (codes "found") then found_in opened ws
    else if bytes_eq word (codes "test") then (only_draft opened ws >>= λ draft. Ok (Test draft))
    else if bytes_eq word (codes "commit") then
    (only_draft opened ws >>= λ draft. Ok (Commit draft))
    else if bytes_eq word (codes "abandon") then
    (only_draft opened ws >>= λ draft. Ok (Abandon draft))
    else Err Bad

-- what the words of a line say, where so many drafts were opened above it
unfoldable pub row_in : ℕ → List (List ℕ) → Result Row RowFault
row_in opened ws = do
  w ← head_word ws
  row_of opened w.0 w.1
