-- Two runs of one release list in one document, one before a change and one after it: the row of each task as it was, and
-- right below it the row of the same task as it is, with what changed marked.
use Rattle.std.specs.Prelude.{ℕ, ◌+◌, ◌-◌, ◌*◌, ◌/◌, min, max, Bool, false, ◌==◌, nat_lt, if◌then◌else◌, List, [], ◌∷◌, ◌++◌, length, string_bytes, codes}
use Rattle.std.specs.Fmt.{decimal}
use Rattle.std.specs.List.{concat}
use Rattle.ceiling_kernel.specs.declared.trace.Release.{Release}
use Rattle.ceiling_kernel.specs.declared.trace.JobRecord.{JobRecord}
use Rattle.ceiling_kernel.specs.declared.trace.Slice.{Slice}
use Rattle.frames.specs.declared.rows.Spot.{Spot}
use Rattle.frames.specs.declared.rows.TaskRow.{TaskRow}
use Rattle.frames.specs.declared.tones.Toned.{Toned}
use Rattle.frames.specs.declared.view.View.{View}
use Rattle.frames.specs.Frame.{Frame, frame_beside, frame_end, in_millis, step_of, top_of, x_of}
use Rattle.frames.specs.Locks.{locks_beside}
use Rattle.frames.specs.Numbers.{time_text, unit_text}
use Rattle.frames.specs.PictureRows.{at_places, each}
use Rattle.frames.specs.Places.{below_of, lower_places, upper_places}
use Rattle.frames.specs.View.{shown_of}
use Rattle.drawn_jobs.specs.Changes.{all_changed, changes_text}
use Rattle.drawn_jobs.specs.Held.{held_before, held_beside}
use Rattle.drawn_jobs.specs.Lane.{lane_head, lane_line, lanes_text}
use Rattle.drawn_jobs.specs.Misses.{all_missed}
use Rattle.drawn_jobs.specs.Stripes.{locks_group}
use Rattle.picture.specs.declared.beside.DrawnRun.{DrawnRun}
use Rattle.picture.specs.declared.style.TheConstants.{BESIDE_STYLE, STYLE}
use Rattle.picture.specs.Document.{are_interrupted, high_of, margins_text, run_text, signed, size_head, ticks_text, unrun_words, width_of, window_words}
use Rattle.picture.specs.Titles.{letters_behind, title_in, title_tail}
use Rattle.picture.specs.Waits.{Scene}

-- a run: its rows, the highest level first, when it ends, in microseconds, the list's releases, and what happened in it
pub record Run : Type 0 where
  pub rows : List TaskRow
  pub until : ℕ
  pub releases : List Release
  pub jobs : List JobRecord
  pub slices : List Slice

-- that of what a call is given
abbrev pub run_of : DrawnRun → Run
run_of run = record {
  rows = run.rows.now;
  until = run.until;
  releases = run.releases.now;
  jobs = run.trace.now.jobs.items;
  slices = run.trace.now.slices.items;
}

-- ---- what stands still
-- a run: how many tasks and jobs it has, and when it ends
abbrev pub side_words : (millis : Bool) → (word : List ℕ) → Scene → (until : ℕ) → List ℕ
side_words millis word c until =
    concat (word ∷ codes " tasks: " ∷ decimal (length c.rows) ∷ codes ", jobs: "
    ∷ decimal (length c.jobs) ∷ codes ", until " ∷ time_text millis until ∷ unit_text millis ∷ [])

-- both
abbrev pub sides_words : (millis : Bool) → (old new : Scene) → (was is : ℕ) → List ℕ
sides_words millis old new was is =
    side_words millis (codes "before:") old was ++ side_words millis (codes ", after:") new is

-- how wide and high the picture is
abbrev pub size_beside : (new : Scene) → (locks : ℕ) → List ℕ
size_beside new locks =
    size_head new.frame.paper (width_of new.frame) (high_of new.frame (length new.shown) locks)
    ++ concat (codes "\" viewBox=\"0 0 " ∷ decimal (width_of new.frame) ∷ codes " "
    ∷ decimal (high_of new.frame (length new.shown) locks) ∷ codes "\">\n<title>" ∷ [])

-- the first lines, and the title, with what was given behind it
abbrev pub head_beside : (old new : Scene) → List ℕ → (locks was is : ℕ) → List ℕ
head_beside old new title locks was is =
    size_beside new locks ++ sides_words false old new was is ++ title_tail title
    ++ codes "</title>\n"

-- whether a deadline is missed, and how many are
abbrev pub missed_words : (missed : ℕ) → List ℕ
missed_words missed =
    if missed == 0 then codes "no deadline missed"
    else concat (codes "<tspan class=\"q\">deadlines missed: " ∷ decimal missed ∷ codes "</tspan>" ∷ [])

-- how many letters they take
abbrev pub missed_letters : (missed : ℕ) → ℕ
missed_letters missed = if missed == 0 then 18 else 23

-- the same before and after, and behind it what was given as title, as far as there is room
abbrev pub verdict_beside : Frame → List ℕ → (old new : ℕ) → List ℕ
verdict_beside f title old new =
    codes "<text class=\"t\" x=\"100\" y=\"200\">before: " ++ missed_words old
    ++ codes ", after: " ++ missed_words new
    ++ title_in title (letters_behind f (20 + missed_letters old + missed_letters new))
    ++ codes "</text>\n"

-- that the bounds of one of them count what the run lacks
abbrev pub unrun_beside : (old new : List TaskRow) → List ℕ
unrun_beside old new = if are_interrupted old then unrun_words old else unrun_words new

-- up to when both are known
abbrev pub known_to : (old new : Scene) → ℕ
known_to old new = min old.frame.until new.frame.until

-- the frame of the one that ends later
abbrev pub later_of : (old new : Frame) → Frame
later_of old new = if nat_lt old.until new.until then new else old

-- the runs, how many responses changed, what the runs lack, and what part of them is drawn
abbrev pub what_beside : (millis : Bool) → (old new : Scene) → (was is : ℕ) → List ℕ
what_beside millis old new was is =
    codes "<text x=\"100\" y=\"390\">" ++ sides_words millis old new was is
    ++ (codes ", responses changed: " ++ decimal (all_changed (known_to old new) old.jobs new.jobs))
    ++ unrun_beside old.rows new.rows ++ window_words millis (later_of old.frame new.frame)
    ++ codes "</text>\n"

-- the line above the two rows of a task, and the lines of both, below their bars
abbrev pub pair_text : Frame → (n : ℕ) → List ℕ
pair_text f n =
    concat (codes "<path class=\"g\" d=\"M100 " ∷ decimal (top_of (2 * n + 1)) ∷ codes "H"
    ∷ decimal (frame_end f) ∷ codes "\"/><path class=\"l\" d=\"M" ∷ decimal f.left ∷ codes " "
    ∷ decimal (top_of (2 * n + 1) + 345) ∷ codes "H" ∷ decimal (frame_end f) ∷ codes "M"
    ∷ decimal f.left ∷ codes " " ∷ decimal (top_of (2 * n + 2) + 345) ∷ codes "H"
    ∷ decimal (frame_end f) ∷ codes "\"/>\n" ∷ [])

-- those of so many places
abbrev pub pairs_text : Frame → (places : ℕ) → List ℕ
pairs_text f places = each (places / 2) (pair_text f)

-- a word in the margin
abbrev pub word_at : (word : List ℕ) → (y : ℕ) → List ℕ
word_at word y =
    concat (codes "<text class=\"ba\" x=\"500\" y=\"" ∷ decimal y ∷ codes "\">" ∷ word
    ∷ codes "</text>\n" ∷ [])

-- the same above the name of a row
abbrev pub name_word : (word : List ℕ) → Spot → TaskRow → List ℕ
name_word word s row = word_at word (top_of s.k + 105)

-- the margin of a run, with a word above each name that says which run it is
abbrev pub margin_side : Scene → (word : List ℕ) → List ℕ
margin_side c word =
    margins_text c.frame c.rows c.shown c.jobs ++ at_places c.rows c.shown (name_word word)

-- the margins of both, as a group
abbrev pub margins_beside : (old new : Scene) → List ℕ
margins_beside old new =
    concat (codes "<g id=\"n\">\n<text x=\"500\" y=\"1200\">time in" ∷ unit_text (in_millis new.frame)
    ∷ codes "</text>\n" ∷ [])
    ++ margin_side old (codes "before") ++ margin_side new (codes "after") ++ codes "</g>\n"

-- how the elements look
abbrev pub styles_beside : List ℕ
styles_beside = STYLE.now ++ BESIDE_STYLE.now

-- what stands still: how the elements look, how many deadlines are missed, what is drawn, the scale, the lines of the rows,
-- the margins, and the locks
abbrev pub ground_beside : (old new : Scene) → List ℕ → (held : List Toned) → (was is : ℕ) → List ℕ
ground_beside old new title held was is =
    head_beside old new title (length held) was is ++ styles_beside
    ++ verdict_beside new.frame title (all_missed old.frame old.rows old.jobs)
    (all_missed new.frame new.rows new.jobs)
    ++ what_beside (in_millis new.frame) old new was is
    ++ ticks_text new.frame (top_of (length new.shown)) (step_of new.frame)
    ++ pairs_text new.frame (length new.shown) ++ margins_beside old new
    ++ locks_group new.frame (length new.shown) held

-- ---- what happens
-- a line and words in a lane
abbrev pub end_at : Frame → (words : List ℕ) → (x : ℕ) → List ℕ
end_at f words x =
    concat (codes "<path class=\"en\" d=\"M" ∷ decimal x
    ∷ codes " 1330v240\"/><text class=\"ba\" x=\"" ∷ decimal (min (x + 40) (frame_end f - 400))
    ∷ codes "\" y=\"1498\">" ∷ words ∷ codes "</text>\n" ∷ [])

-- the words, of a run that ends in the window, or has ended before it
abbrev pub end_words : Frame → List ℕ
end_words f = if nat_lt f.until f.from then codes "run has ended" else codes "run ends"

-- the same where a run ends, if it does before the window's end
abbrev pub end_text : Frame → List ℕ
end_text f = if nat_lt f.until f.to then end_at f (end_words f) (x_of f f.until) else []

-- the lane of the processor, with a word that says of which run, and where that ends
abbrev pub lane_side : Scene → (word : List ℕ) → List ℕ
lane_side c word =
    lane_line c.frame ++ lane_head c.frame c.slices ++ word_at word 1345
    ++ lanes_text c.frame c.rows c.jobs c.slices ++ end_text c.frame

-- that of one run, and below it, by a place, that of the other
abbrev pub lanes_beside : (old new : Scene) → List ℕ
lanes_beside old new =
    lane_side old (codes "before") ++ codes "<g transform=\"translate(0 480)\">\n"
    ++ lane_side new (codes "after") ++ codes "</g>\n"

-- the locks that one of them holds in the window
abbrev pub held_of : (old new : Scene) → List Toned
held_of old new =
    held_beside new.locks
    (held_before old.frame old.rows old.shown old.jobs old.slices (length old.slices))
    (held_before new.frame new.rows new.shown new.jobs new.slices (length new.slices))

-- what happens in a run's rows
abbrev pub side_text : Scene → List ℕ
side_text c = run_text c.frame c.locks c.rows c.shown c.releases c.jobs c.slices

-- what is drawn of both: what stands still, the lanes, what happens in the rows, and which responses changed
abbrev pub body_beside : (old new : Scene) → List ℕ → (was is : ℕ) → List ℕ
body_beside old new title was is =
    ground_beside old new title (held_of old new) was is ++ lanes_beside old new
    ++ side_text old ++ side_text new
    ++ changes_text new.frame (known_to old new) new.rows new.shown old.jobs new.jobs

-- ---- the document
-- the later end
abbrev pub end_of_both : (old new : Run) → ℕ
end_of_both old new = max old.until new.until

-- which rows of a run are shown
abbrev pub chosen_of : View → Run → List ℕ
chosen_of v run = shown_of v.tasks.items run.releases run.rows

-- a run in a frame, with locks, at places
abbrev pub scene_at : Frame → List Toned → Run → (shown : List ℕ) → Scene
scene_at f locks run shown = record {
  frame = f;
  locks = locks;
  rows = run.rows;
  shown = shown;
  releases = run.releases;
  jobs = run.jobs;
  slices = run.slices;
}

-- the frame of one of them
abbrev pub side_frame : (old new : Run) → View → Run → Frame
side_frame old new v run =
    frame_beside (length run.rows) old.rows new.rows v run.until (end_of_both old new)

-- where the rows before stand: above
abbrev pub old_places : View → Run → List ℕ
old_places v old = upper_places (chosen_of v old)

-- and those after: below those of the same tasks, and last those of tasks that the other has no row of
abbrev pub new_places : View → (old new : Run) → List ℕ
new_places v old new = lower_places (below_of old.rows (chosen_of v old) new.rows (chosen_of v new))

-- what is drawn of the one before
abbrev pub old_scene : (old new : Run) → View → Scene
old_scene old new v =
    scene_at (side_frame old new v old) (locks_beside old.rows new.rows) old (old_places v old)

-- and of the one after
abbrev pub new_scene : (old new : Run) → View → Scene
new_scene old new v =
    scene_at (side_frame old new v new) (locks_beside old.rows new.rows) new (new_places v old new)

-- THE DOCUMENT OF TWO RUNS, as a view has them
abbrev pub document_beside : (old new : Run) → View → List ℕ
document_beside old new v =
    signed (body_beside (old_scene old new v) (new_scene old new v) (string_bytes v.title) old.until new.until)
