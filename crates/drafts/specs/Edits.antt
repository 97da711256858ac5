-- What a draft shows, and what its edits make of its list of changes.
use Rattle.std.specs.Prelude.{◌≡◌, ℕ, ◌<◌, Bool, true, false, ◌&&◌, ◌||◌, not, nat_le, List, [], ◌∷◌, length, Option, None, Some, is_some, Result, Ok, Err, if◌then◌else◌}
use Rattle.task_sheet.specs.Sheet.{Task, same_bytes}
use Rattle.std.specs.List.{AllByRecursion, IsDistinct}
use Rattle.std.specs.Map.{keys_of, lookup, remove_entry}
use Rattle.indexmap.specs.IndexMap.{insert_entry}
use Rattle.drafts.specs.declared.roster.Owned.{Owned}
use Rattle.drafts.specs.declared.change.Change.{Change}
use Rattle.drafts.specs.declared.change.Change.TheVariants.{Put, Remove}
use Rattle.drafts.specs.declared.draft.TheConstants.{CHANGE_LIMIT}
use Rattle.drafts.specs.declared.draft.EditRefusal.{EditRefusal}
use Rattle.drafts.specs.declared.draft.EditRefusal.TheVariants.{NotYours, NoSuchTask, DraftFull}
use Rattle.drafts.specs.declared.draft.EditCause.{EditCause}
use Rattle.drafts.specs.declared.draft.EditCause.TheVariants.{OutOfMemory, Refused}
use Rattle.drafts.specs.declared.change.Refusal.{Refusal}
use Rattle.drafts.specs.Applied.{OnNode, held, is_foreign, is_there, applied}
use Rattle.drafts.specs.Machine.{MachineState}

-- a draft: its team, the state that it was opened on, and its changes by name
pub record Draft : Type 0 where
  pub team : ℕ
  pub base : MachineState
  pub changes : List (List ℕ × Change)

-- no two changes are on one name
abbrev pub HaveDistinctNames : List (List ℕ × Change) → Type 0
HaveDistinctNames changes = IsDistinct same_bytes (keys_of changes)

-- a put on that name is of a sheet of that name
abbrev pub IsNamed : List ℕ → Change → Type 0
IsNamed name (Put sheet) = sheet.name ≡ name
IsNamed name Remove = Unit {0}

-- each put is on its sheet's own name
abbrev pub AreNamed : List (List ℕ × Change) → Type 0
AreNamed changes = AllByRecursion (λ c. IsNamed c.0 c.1) changes

-- the change is a put
abbrev pub is_put : Change → Bool
is_put (Put sheet) = true
is_put Remove = false

-- one of the changes is a put
abbrev pub has_put : List (List ℕ × Change) → Bool
has_put [] = false
has_put (c ∷ changes) = is_put c.1 || has_put changes

-- what changes come to, where they apply, has a task
abbrev pub HasTasks : Result OnNode Refusal → Type 0
HasTasks (Err refusal) = Unit {0}
HasTasks (Ok node) = 0 < length node.tasks

-- what the changes come to on the state that they were made on
abbrev pub on_base : Draft → Result OnNode Refusal
on_base d = applied d.team d.base.node d.changes

-- the change on a name
abbrev pub change_on : List ℕ → List (List ℕ × Change) → Option Change
change_on name changes = lookup (same_bytes name) changes

-- the sheet that is held
abbrev pub sheet_held : Option Owned → Option Task
sheet_held None = None
sheet_held (Some o) = Some o.sheet

-- what a draft shows of a name: its own change, or else what its base holds
abbrev pub shown : Option Owned → Option Change → Option Task
shown base (Some (Put sheet)) = Some sheet
shown base (Some Remove) = None
shown base None = sheet_held base

-- the sheet of that name as the draft shows it
abbrev pub view : Draft → List ℕ → Option Task
view d name = shown (held name d.base.node.tasks) (change_on name d.changes)

-- the change stands in the place of the one on its name, or last
abbrev pub recorded : List ℕ → Change → List (List ℕ × Change) → List (List ℕ × Change)
recorded name change changes = insert_entry same_bytes changes name change

-- without the change on a name
abbrev pub dropped : List ℕ → List (List ℕ × Change) → List (List ℕ × Change)
dropped name changes = remove_entry (same_bytes name) changes

-- as many changes as a draft may have, none of them on the name
abbrev pub is_full : List ℕ → List (List ℕ × Change) → Bool
is_full name changes = nat_le CHANGE_LIMIT (length changes) && not (is_some (change_on name changes))

-- the changes after a put, or why it is refused
abbrev pub after_put : Draft → Task → Result (List (List ℕ × Change)) EditRefusal
after_put d sheet =
    if is_foreign d.team (held sheet.name d.base.node.tasks) then Err NotYours
    else (if is_full sheet.name d.changes then Err DraftFull
    else Ok (recorded sheet.name (Put sheet) d.changes))

-- the changes after a remove, or why it is refused
abbrev pub after_remove : Draft → List ℕ → Result (List (List ℕ × Change)) EditRefusal
after_remove d name =
    if not (is_some (view d name)) then Err NoSuchTask
    else (if is_foreign d.team (held name d.base.node.tasks) then Err NotYours
    else (if not (is_there (held name d.base.node.tasks)) then Ok (dropped name d.changes)
    else (if is_full name d.changes then Err DraftFull
    else Ok (recorded name Remove d.changes))))

-- out of memory, or the refusal that the edit comes to
abbrev pub IsEditFault : Result (List (List ℕ × Change)) EditRefusal → EditCause → Type 0
IsEditFault outcome OutOfMemory = Unit {0}
IsEditFault outcome (Refused refusal) = outcome ≡ Err refusal
