-- The desk with all its live drafts, and what happens at each event.
use Rattle.std.specs.Prelude.{◌≡◌, ℕ, ◌+◌, ◌-◌, ◌<◌, ◌⊎◌, ◌==◌, List, [], ◌∷◌, ◌++◌, length, map, Option, None, Some, Result, Ok, Err, slice_get, slice_set, if◌then◌else◌}
pub use Rattle.task_sheet.specs.SetCodes.{set_codes}
use Rattle.task_sheet.specs.Sheet.{Task, task_at}
use Rattle.task_sheet.specs.Orders.{IsFeasible}
use Rattle.assignment.specs.Questions.{QuestionData}
use Rattle.drafts.specs.declared.change.Change.{Change}
use Rattle.drafts.specs.declared.change.Refusal.{Refusal}
use Rattle.drafts.specs.declared.draft.EditRefusal.{EditRefusal}
use Rattle.drafts.specs.declared.draft.EditRefusal.TheVariants as draft
use Rattle.drafts.specs.Applied.{OnNode, set_of}
use Rattle.drafts.specs.Placed.{AreStuck}
use Rattle.drafts.specs.Machine.{MachineState}
use Rattle.drafts.specs.Books.{Book, empty_book, logged, IsNextEntry}
use Rattle.drafts.specs.Edits.{Draft, on_base, after_put, after_remove}
use Rattle.desk_core.specs.declared.events.Cause.{Cause}
use Rattle.desk_core.specs.declared.events.Cause.TheVariants.{NoSuchDraft, NotYours, NoSuchTask, DraftFull, Untestable, Stranger, Twice}
use Rattle.desk_core.specs.declared.events.Reply.{Reply}
use Rattle.desk_core.specs.declared.events.Reply.TheVariants.{Opened, Done, Taken, LevelDone, Tested, Stale, Decided, Refused}
use Rattle.desk_core.specs.declared.events.Event.{Event}
use Rattle.desk_core.specs.declared.events.Event.TheVariants.{Open, Put, Remove, Found, Commit, Abandon}
use Rattle.desk_core.specs.declared.told.Told.{Told}
use Rattle.desk_core.specs.declared.told.Told.TheVariants as told
use Rattle.desk_core.specs.Findings.{Asked, asked_of, found_after, IsTested, IsTold}

-- a draft that hasn't ended, and which findings were taken since its last change, in their order
pub record Live : Type 0 where
  pub draft : Draft
  pub found : List Asked

-- the book, and the drafts by number from 1, where None has ended
pub record World : Type 0 where
  pub book : Book
  pub drafts : List (Option Live)

-- the world before all events: an empty book and no draft
abbrev pub start : World
start = record { book = empty_book; drafts = [] }

-- a slot that is there
abbrev pub if_live : Option (Option Live) → Option Live
if_live None = None
if_live (Some slot) = slot

-- the draft of a number, from 1, where it is live
abbrev pub live_at : List (Option Live) → ℕ → Option Live
live_at drafts number = if number == 0 then None else if_live (slice_get drafts (number - 1))

-- the world with this in the slot of a draft
abbrev pub with_slot : World → ℕ → Option Live → World
with_slot w number slot = record { book = w.book; drafts = slice_set w.drafts (number - 1) slot }

-- a draft that a team opens on this state
abbrev pub opened : ℕ → MachineState → Live
opened team desk = record { draft = record { team = team; base = desk; changes = [] }; found = [] }

-- the draft with these changes, without findings
abbrev pub changed : Live → List (List ℕ × Change) → Live
changed l changes = record {
  draft = record { team = l.draft.team; base = l.draft.base; changes = changes };
  found = [];
}

-- the draft on another state, without findings
abbrev pub rebased : Live → MachineState → Live
rebased l desk = record {
  draft = record { team = l.draft.team; base = desk; changes = l.draft.changes };
  found = [];
}

-- the draft with these findings
abbrev pub with_found : Live → List Asked → Live
with_found l found = record { draft = l.draft; found = found }

-- ---- edits
-- why an edit is refused
abbrev pub cause_of : EditRefusal → Cause
cause_of draft.NotYours = NotYours
cause_of draft.NoSuchTask = NoSuchTask
cause_of draft.DraftFull = DraftFull

-- an edit that comes to changes is done, and drops the findings; one that is refused leaves the
-- draft as it is
abbrev pub IsEdited : Live → Result (List (List ℕ × Change)) EditRefusal → Reply → Live → Type 0
IsEdited l (Ok changes) reply after = (reply ≡ Done) × (after ≡ changed l changes)
IsEdited l (Err refusal) reply after = (reply ≡ Refused (cause_of refusal)) × (after ≡ l)

-- ---- findings, on the base
-- the names that a complete verdict shows: none where an order passes, else those of the greatest
-- obstruction, by rank
abbrev pub IsShown : List Task → List (List ℕ) → Type 0
IsShown U names =
    (IsFeasible U × (names ≡ []))
    ⊎ ((¬ IsFeasible U)
    × ((members : List ℕ) × AreStuck U members
    × (names ≡ map (λ i. (task_at U i).name) members)))

-- the reply that a test is complete, with the names that its verdict shows
abbrev pub IsTestedReply : List Task → Reply → Type 0
IsTestedReply U (Tested infeasible) = IsShown U infeasible.items
IsTestedReply U _ = ⊥

-- the reply that says what is told of a finding
abbrev pub IsToldReply : List Task → Told → Reply → Type 0
IsToldReply U told.Stranger reply = reply ≡ Refused Stranger
IsToldReply U told.Twice reply = reply ≡ Refused Twice
IsToldReply U told.Taken reply = reply ≡ Taken
IsToldReply U (told.LevelDone level task response) reply =
    reply ≡ LevelDone level (task_at U task).name response
IsToldReply U told.Tested reply = IsTestedReply U reply

-- a finding is answered by what is told of it, on what the changes come to, and the findings are
-- then these; where the changes don't apply, it is refused
abbrev pub IsFound :
    Result OnNode Refusal → List Asked → QuestionData → Reply → List Asked → Type 0
IsFound (Err refusal) found q reply after = (reply ≡ Refused Untestable) × (after ≡ found)
IsFound (Ok node) found q reply after =
    (t : Told) × IsTold (set_of node) found q t × IsToldReply (set_of node) t reply
    × (after ≡ found_after found (asked_of q) t)

-- so it is for a live draft, whose changes and base stay
abbrev pub IsBroughtTo : Live → QuestionData → Reply → Live → Type 0
IsBroughtTo l q reply after =
    (found : List Asked) × IsFound (on_base l.draft) l.found q reply found
    × (after ≡ with_found l found)

-- ---- commits
-- the changes apply, and the findings decide all levels of what they come to
abbrev pub IsTestedOn : Result OnNode Refusal → List Asked → Type 0
IsTestedOn (Err refusal) found = ⊥
IsTestedOn (Ok node) found = IsTested (set_of node) found

-- the draft is tested
abbrev pub IsTestedDraft : Live → Type 0
IsTestedDraft l = IsTestedOn (on_base l.draft) l.found

-- tested on a state that isn't the present one any more
abbrev pub IsStale : Book → Live → Type 0
IsStale b l = IsTestedDraft l × (l.draft.base.version < b.desk.version)

-- a stale draft goes to the present state, and the book stays; any other is one step of the
-- machine, which is logged, and ends
abbrev pub IsCommitted : Book → Live → Reply → Book → Option Live → Type 0
IsCommitted b l (Stale version) book slot =
    IsStale b l × (version ≡ b.desk.version) × (book ≡ b) × (slot ≡ Some (rebased l b.desk))
IsCommitted b l (Decided place entry) book slot =
    (¬ IsStale b l) × IsNextEntry b l.draft place entry.value
    × (book ≡ logged b entry.value) × (slot ≡ None)
IsCommitted b l _ book slot = ⊥

-- ---- events
-- an event on a draft that isn't live is refused, and all stays; on one that is live this comes
-- of it
abbrev pub IfLive : Option Live → Reply → (stays : Type 0) → (comes : Live → Type 0) → Type 0
IfLive None reply stays comes = (reply ≡ Refused NoSuchDraft) × stays
IfLive (Some l) reply stays comes = comes l

-- an edit of a draft happens, which comes to changes or to a refusal
abbrev pub IsEdit :
    World → ℕ → (Live → Result (List (List ℕ × Change)) EditRefusal) → Reply → World → Type 0
IsEdit w draft comes_to reply v =
    IfLive (live_at w.drafts draft) reply (v ≡ w)
    (λ l. (m : Live) × IsEdited l (comes_to l) reply m × (v ≡ with_slot w draft (Some m)))

-- the core may answer this to an event, and the world is then that
abbrev pub Happens : World → Event → Reply → World → Type 0
-- a draft of the next number is opened on the present state
Happens w (Open team) reply v =
    (reply ≡ Opened (length w.drafts + 1) w.book.desk.version)
    × (v ≡ record { book = w.book; drafts = w.drafts ++ Some (opened team w.book.desk) ∷ [] })
-- a put is an edit, and so is a remove
Happens w (Put draft sheet) reply v = IsEdit w draft (λ l. after_put l.draft sheet) reply v
Happens w (Remove draft name) reply v = IsEdit w draft (λ l. after_remove l.draft name) reply v
-- a finding is brought to the test of the draft's changes on their base
Happens w (Found draft finding) reply v =
    IfLive (live_at w.drafts draft) reply (v ≡ w)
    (λ l. (m : Live) × IsBroughtTo l finding.question reply m × (v ≡ with_slot w draft (Some m)))
-- a commit is stale or decided, and the draft's slot and the book are then as that says
Happens w (Commit draft) reply v =
    IfLive (live_at w.drafts draft) reply (v ≡ w)
    (λ l. (slot : Option Live) × IsCommitted w.book l reply v.book slot
    × (v.drafts ≡ slice_set w.drafts (draft - 1) slot))
-- the draft ends without a decision
Happens w (Abandon draft) reply v =
    IfLive (live_at w.drafts draft) reply (v ≡ w)
    (λ l. (reply ≡ Done) × (v ≡ with_slot w draft None))

-- a run: events happen one after the other, with these replies, and lead from one world to another
abbrev pub IsRun : World → List Event → List Reply → World → Type 0
IsRun w [] [] v = v ≡ w
IsRun w (e ∷ events) (r ∷ replies) v = (u : World) × Happens w e r u × IsRun u events replies v
IsRun w [] (r ∷ replies) v = ⊥
IsRun w (e ∷ events) [] v = ⊥
