-- A set as a script.
use Rattle.std.specs.Prelude.{ℕ, ◌+◌, ◌==◌, List, [], ◌∷◌, ◌++◌, map, codes, if◌then◌else◌}
use Rattle.std.specs.Fmt.{decimal}
use Rattle.task_sheet.specs.declared.node.Node.{Node}
use Rattle.task_sheet.specs.declared.node.Interrupt.{Interrupt}
use Rattle.task_sheet.specs.Sheet.{CriticalSection, OutranksData, Named, AllOthers, Task, no_overhead, same_node}
use Rattle.scripts.specs.declared.line.Line.{Line}
use Rattle.scripts.specs.declared.line.Row.TheVariants.{Open, Put, Commit}

-- ---- words
-- words, each after one space
abbrev pub spaced : List (List ℕ) → List ℕ
spaced [] = []
spaced (w ∷ ws) = codes " " ++ w ++ spaced ws

-- names, each behind a sign `+`
abbrev pub plus_rest : List (List ℕ) → List ℕ
plus_rest [] = []
plus_rest (n ∷ ns) = codes "+" ++ n ++ plus_rest ns

-- names with a sign `+` between each two
abbrev pub plus_names : List (List ℕ) → List ℕ
plus_names [] = []
plus_names (n ∷ ns) = n ++ plus_rest ns

-- a section as `LOCK+LOCK@AT:LEN`
abbrev pub section_word : CriticalSection → List ℕ
section_word s = plus_names s.locks ++ codes "@" ++ decimal s.at ++ codes ":" ++ decimal s.len

-- each of some sections
abbrev pub section_words : List CriticalSection → List (List ℕ)
section_words ss = map section_word ss

-- `j=JITTER`, where the jitter isn't 0
abbrev pub delay_words : ℕ → List (List ℕ)
delay_words jitter = if jitter == 0 then [] else (codes "j=" ++ decimal jitter) ∷ []

-- `over=NAME+NAME`, where the task must stand above others, or `over=*`, above all others
abbrev pub over_words : OutranksData → List (List ℕ)
over_words (Named []) = []
over_words (Named (n ∷ ns)) = (codes "over=" ++ plus_names (n ∷ ns)) ∷ []
over_words AllOthers = codes "over=*" ∷ []

-- the numbers JOB, LOCK, RELEASE and LATE of a node
abbrev pub node_numbers : Node → List (List ℕ)
node_numbers node =
    decimal node.job ∷ decimal node.lock ∷ decimal node.release ∷ decimal node.late ∷ []

-- `node=JOB+LOCK+RELEASE+LATE`, where the node takes something
abbrev pub node_words : Node → List (List ℕ)
node_words node =
    if same_node node no_overhead then []
    else (codes "node=" ++ plus_names (node_numbers node)) ∷ []

-- an interrupt as `PERIOD:COST`
abbrev pub interrupt_word : Interrupt → List ℕ
interrupt_word x = decimal x.period ++ codes ":" ++ decimal x.cost

-- `irq=PERIOD:COST+PERIOD:COST`, where there are interrupts
abbrev pub interrupt_words : List Interrupt → List (List ℕ)
interrupt_words [] = []
interrupt_words (x ∷ xs) = (codes "irq=" ++ plus_names (map interrupt_word (x ∷ xs))) ∷ []

-- the draft, and what stands in each sheet
abbrev pub value_words : (draft : ℕ) → Task → List (List ℕ)
value_words draft t =
    decimal draft ∷ t.name ∷ decimal t.weight ∷ decimal t.period ∷ decimal t.deadline ∷ decimal t.cost
    ∷ []

-- what may be left out, each behind a space
abbrev pub fields_of : Task → List ℕ
fields_of t =
    spaced (delay_words t.jitter) ++ spaced (over_words t.outranks)
    ++ spaced (node_words t.node) ++ spaced (interrupt_words t.interrupts)

-- ---- lines
-- the line that puts a task into a draft
abbrev pub put_line : (draft : ℕ) → Task → List ℕ
put_line draft t =
    codes "put" ++ spaced (value_words draft t) ++ fields_of t ++ spaced (section_words t.sections)

-- those of tasks, each ended by LF
abbrev pub put_lines : (draft : ℕ) → List Task → List ℕ
put_lines draft [] = []
put_lines draft (t ∷ U) = put_line draft t ++ codes "\n" ++ put_lines draft U

-- the line that commits a draft
abbrev pub commit_line : (draft : ℕ) → List ℕ
commit_line draft = codes "commit " ++ decimal draft

-- a team opens a draft, puts tasks, and commits it
abbrev pub draft_of : (draft team : ℕ) → List Task → List ℕ
draft_of draft team U =
    codes "open " ++ decimal team ++ codes "\n" ++ put_lines draft U ++ commit_line draft
    ++ codes "\n"

-- a team opens the draft 1, puts all tasks by rank, and commits it
abbrev pub script_of : ℕ → List Task → List ℕ
script_of team U = draft_of 1 team U

-- the teams from this number on do so, each with its part of the tasks, in the draft of its number
abbrev pub drafts_from : ℕ → List (List Task) → List ℕ
drafts_from number [] = []
drafts_from number (U ∷ parts) = draft_of number number U ++ drafts_from (number + 1) parts

abbrev pub script_of_teams : List (List Task) → List ℕ
script_of_teams parts = drafts_from 1 parts

-- ---- what they say
-- tasks are put into a draft, from the line with this number on, and it is committed
abbrev pub lines_from : ℕ → (draft : ℕ) → List Task → List Line
lines_from number draft [] = record { number = number; row = Commit draft } ∷ []
lines_from number draft (t ∷ U) =
    record { number = number; row = Put draft t } ∷ lines_from (number + 1) draft U

-- the number of the line behind those
abbrev pub number_behind : ℕ → List Task → ℕ
number_behind number [] = number + 1
number_behind number (t ∷ U) = number_behind (number + 1) U

-- a team opens the draft before
abbrev pub lines_of_draft : ℕ → (draft team : ℕ) → List Task → List Line
lines_of_draft number draft team U =
    record { number = number; row = Open team } ∷ lines_from (number + 1) draft U

abbrev pub lines_of_set : ℕ → List Task → List Line
lines_of_set team U = lines_of_draft 1 1 team U

-- the teams from this number on do so, each with its part of the tasks
abbrev pub lines_of_drafts : ℕ → (team : ℕ) → List (List Task) → List Line
lines_of_drafts number team [] = []
lines_of_drafts number team (U ∷ parts) =
    lines_of_draft number team team U
    ++ lines_of_drafts (number_behind (number + 1) U) (team + 1) parts

abbrev pub lines_of_teams : List (List Task) → List Line
lines_of_teams parts = lines_of_drafts 1 1 parts
