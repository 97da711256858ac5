-- What the darker ticks and the missed deadlines mean, how wide a picture is, and that names stand in it as they are.
use Rattle.std.specs.Prelude.{◌≡◌, ℕ, ◌+◌, ◌*◌, ◌<◌, ◌≤◌, ◌↔◌, Bool, true, false, Some, None, not, ◌&&◌, ◌==◌, nat_le, nat_lt, List, IsTrue, All, length}
use Rattle.std.specs.List.{list_all}
use Rattle.task_sheet.specs.Sheet.{CriticalSection}
use Rattle.task_sheet.specs.Name.{IsName}
use Rattle.ceiling_kernel.specs.Tick.{is_inside}
use Rattle.ceiling_kernel.specs.declared.trace.Slice.{Slice}
use Rattle.ceiling_kernel.specs.declared.trace.JobRecord.{JobRecord}
use Rattle.frames.specs.declared.rows.Spot.{Spot}
use Rattle.frames.specs.declared.rows.TaskRow.{TaskRow}
use Rattle.frames.specs.declared.view.View.{View}
use Rattle.frames.specs.Frame.{Frame, frame_of}
use Rattle.frames.specs.PictureRows.{name_in, spot_named}
use Rattle.frames.specs.Places.{below_of, lower_places, upper_places}
use Rattle.task_sheet.specs.declared.set.TheConstants.{TASK_LIMIT}
use Rattle.frames.specs.Slices.{ticks_of}
use Rattle.drawn_jobs.specs.Sections.{dark_from, dark_to}
use Rattle.drawn_jobs.specs.Misses.{is_late}
use Rattle.frames.specs.Tones.{free_tone, has_tone}
use Rattle.frames.specs.View.{paper_width}
use Rattle.frames.specs.declared.tones.Toned.{Toned}
use Rattle.picture.specs.Document.{paper_wide, width_of}

-- a job's tick number e, from 0, is executed inside a section
abbrev pub executes_inside : CriticalSection → ℕ → Bool
executes_inside x e = nat_le x.at e && nat_lt e (x.at + x.len)

-- tick n of a slice, whose job has executed e ticks before it, is darker where it is executed inside the section
abbrev pub AreTicksDark : Type 0
AreTicksDark =
    (x : CriticalSection) (e : ℕ) (s : Slice) (n : ℕ) → n < ticks_of s
    → ((dark_from x e ≤ n) × (n < dark_to x e s)) ↔ IsTrue (executes_inside x (e + n))

-- at the boundary after tick e, the kernel's job is inside where tick e and the one after it are executed inside;
-- before the first tick it is inside nothing
abbrev pub IsHeldBetween : Type 0
IsHeldBetween =
    (x : CriticalSection) → (is_inside x 0 ≡ false)
    × ((e : ℕ) → is_inside x (e + 1) ≡ (executes_inside x e && executes_inside x (e + 1)))

-- a deadline is shown as missed where the job is done after it, or isn't done by an end that isn't before it; there is
-- some time up to each
abbrev pub AreMissesShown : Type 0
AreMissesShown =
    (f : Frame) (row : TaskRow) (job : JobRecord) → 0 < row.sheet.deadline
    → ((finish : ℕ) → job.finish ≡ Some finish
    → is_late f row job ≡ nat_lt (job.release + row.sheet.deadline) finish)
    × (job.finish ≡ None → is_late f row job ≡ nat_le (job.release + row.sheet.deadline) f.until)

-- a picture is as wide as its view says, from 960 to 16,000 pixels, of which each has ten units; where it says nothing, from
-- 960 to 1,600
abbrev pub HasWidth : Type 0
HasWidth =
    (rows : List TaskRow) (v : View) (until : ℕ)
    → (v.width ≡ None → (9600 ≤ width_of (frame_of rows v until))
    × (width_of (frame_of rows v until) ≤ 16000))
    × ((width : ℕ) → v.width ≡ Some width → 960 ≤ width → width ≤ 16000
    → width_of (frame_of rows v until) ≡ 10 * width)

-- a byte that stands for itself in text and between quotes: none of & < > " '
abbrev pub is_plain : ℕ → Bool
is_plain c = not (c == 38) && not (c == 60) && not (c == 62) && not (c == 34) && not (c == 39)

-- all bytes of a name do
abbrev pub AreNamesPlain : Type 0
AreNamesPlain = (name : List ℕ) → IsName name → IsTrue (list_all is_plain name)

-- a tone that is given while some are has been free, unless each of so many is one of theirs
abbrev pub AreTonesFree : Type 0
AreTonesFree =
    (given : List Toned) (own count : ℕ) → own < count
    → has_tone given (free_tone given own count) ≡ true
    → (tone : ℕ) → tone < count → has_tone given tone ≡ true

-- how high the least type is, in units of the picture
abbrev pub LEAST_TYPE : ℕ
LEAST_TYPE = 105

-- where a picture has the width in pixels of paper of an A size, of ten units each, so much of the paper's width is 6 points
-- or more; 72 points are 25.4 millimetres
abbrev pub IsTypeReadable : Type 0
IsTypeReadable =
    (size : ℕ) → 6 * 254 * (10 * paper_width size) ≤ LEAST_TYPE * paper_wide size * 720

-- no two rows are of one task
abbrev pub AreDistinct : List TaskRow → Type 0
AreDistinct rows =
    (i j : ℕ) → i < length rows → j < length rows → name_in rows i ≡ name_in rows j → i ≡ j

-- a task of which two runs show a row has it at an odd place of the one, and right below that in the other
abbrev pub AreRowsBeside : Type 0
AreRowsBeside =
    (old new : List TaskRow) (old_shown new_shown : List ℕ) (name : List ℕ) (s t : Spot)
    → AreDistinct old → length old ≤ TASK_LIMIT → length new ≤ TASK_LIMIT
    → All (λ rank. rank < length old) old_shown → spot_named old old_shown name ≡ Some s
    → spot_named new new_shown name ≡ Some t
    → (spot_named old (upper_places old_shown) name ≡ Some (record { rank = s.rank; k = 2 * s.k + 1 }))
    × (spot_named new (lower_places (below_of old old_shown new new_shown)) name
    ≡ Some (record { rank = t.rank; k = 2 * s.k + 2 }))
