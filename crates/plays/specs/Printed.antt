-- What is printed of the core's replies, and of the book.
use Rattle.std.specs.Prelude.{ℕ, ◌+◌, List, [], ◌∷◌, ◌++◌, Option, Some, None, option_map, slice_get, codes}
use Rattle.std.specs.Fmt.{decimal}
use Rattle.task_sheet.specs.Sheet.{Task}
use Rattle.assignment.specs.Places.{PlaceData}
use Rattle.lines.specs.Naming.{name_at, named}
use Rattle.drafts.specs.declared.draft.EditRefusal.{EditRefusal}
use Rattle.drafts.specs.declared.change.Refusal.{Refusal}
use Rattle.drafts.specs.declared.change.Refusal.TheVariants as refusal
use Rattle.drafts.specs.declared.roster.Owned.{Owned}
use Rattle.drafts.specs.Applied.{OnNode, held, set_of}
use Rattle.drafts.specs.Machine.{Ruling, Admitted, Refused, Infeasible}
use Rattle.desk_core.specs.World.{cause_of}
use Rattle.desk_core.specs.declared.events.Cause.{Cause}
use Rattle.desk_core.specs.declared.events.Cause.TheVariants as cause
use Rattle.desk_core.specs.declared.events.Reply.{Reply}
use Rattle.desk_core.specs.declared.events.Reply.TheVariants as reply

-- ---- replies
-- the name of a cause
abbrev pub cause_word : Cause → List ℕ
cause_word cause.NoSuchDraft = codes "NoSuchDraft"
cause_word cause.NotYours = codes "NotYours"
cause_word cause.NoSuchTask = codes "NoSuchTask"
cause_word cause.DraftFull = codes "DraftFull"
cause_word cause.Untestable = codes "Untestable"
cause_word cause.Stranger = codes "Stranger"
cause_word cause.Twice = codes "Twice"

-- the name of an edit's refusal
abbrev pub edit_word : EditRefusal → List ℕ
edit_word refusal = cause_word (cause_of refusal)

-- an event is refused
abbrev pub refused_line : List ℕ → List ℕ
refused_line word = codes "refused " ++ word ++ codes "\n"

-- each name after a space
abbrev pub names_text : List (List ℕ) → List ℕ
names_text [] = []
names_text (name ∷ names) = codes " " ++ name ++ names_text names

-- a verdict is complete: its names, or none where it admits
abbrev pub tested_line : List (List ℕ) → List ℕ
tested_line [] = codes "tested admitted\n"
tested_line (name ∷ names) = codes "tested infeasible" ++ names_text (name ∷ names) ++ codes "\n"

-- the name of a refusal of changes, with the name that it is on
abbrev pub refusal_words : Refusal → List ℕ
refusal_words (refusal.NotYours name) = codes "NotYours " ++ name
refusal_words (refusal.NoSuchTask name) = codes "NoSuchTask " ++ name
refusal_words refusal.TooManyTasks = codes "TooManyTasks"
refusal_words refusal.TooManyInterrupts = codes "TooManyInterrupts"

-- a commit is decided
abbrev pub ruling_line : Ruling → List ℕ
ruling_line (Admitted version) = codes "admitted " ++ decimal version ++ codes "\n"
ruling_line (Refused refusal) = refused_line (refusal_words refusal)
ruling_line (Infeasible stuck) = codes "infeasible" ++ named stuck.set stuck.members ++ codes "\n"

-- a level is decided
abbrev pub level_done_line : ℕ → List ℕ → ℕ → List ℕ
level_done_line level name response =
    codes "level " ++ decimal level ++ codes " " ++ name ++ codes " " ++ decimal response
    ++ codes "\n"

-- a draft is opened
abbrev pub opened_line : ℕ → ℕ → List ℕ
opened_line draft version =
    codes "draft " ++ decimal draft ++ codes " version " ++ decimal version ++ codes "\n"

-- the line of a reply
abbrev pub printed : Reply → List ℕ
printed (reply.Opened draft version) = opened_line draft version
printed reply.Done = codes "ok\n"
printed reply.Taken = codes "taken\n"
printed (reply.LevelDone level name response) = level_done_line level name response
printed (reply.Tested infeasible) = tested_line infeasible.items
printed (reply.Stale version) = codes "stale " ++ decimal version ++ codes "\n"
printed (reply.Decided place entry) = ruling_line entry.value.decision
printed (reply.Refused why) = refused_line (cause_word why)

-- ---- the book
-- the number of a team, if there is one
abbrev pub team_text : Option ℕ → List ℕ
team_text None = []
team_text (Some team) = decimal team

-- the team that holds the name of a task, if there is one
abbrev pub holder : List Owned → Option Task → Option ℕ
holder tasks None = None
holder tasks (Some task) = option_map (λ o. o.team) (held task.name tasks)

-- a level of the book: its task, the team that holds it, and the response
abbrev pub held_line : OnNode → ℕ → PlaceData → List ℕ
held_line node number place =
    codes "level " ++ decimal number ++ codes " " ++ name_at (set_of node) place.task
    ++ codes " "
    ++ team_text (holder node.tasks (slice_get (set_of node) place.task)) ++ codes " "
    ++ decimal place.response ++ codes "\n"

-- a line for each level, of which the first has a number
abbrev pub held_lines : OnNode → ℕ → List PlaceData → List ℕ
held_lines node number [] = []
held_lines node number (place ∷ places) =
    held_line node number place ++ held_lines node (number + 1) places

-- the version, and the levels from the lowest up
abbrev pub state_lines : ℕ → OnNode → List PlaceData → List ℕ
state_lines version node places =
    codes "version " ++ decimal version ++ codes "\n" ++ held_lines node 1 places
