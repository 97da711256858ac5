-- How the waits of jobs are drawn.
use Rattle.std.specs.Prelude.{ℕ, ◌+◌, ◌-◌, ◌/◌, ◌*◌, max, Bool, ◌&&◌, nat_le, nat_lt, if◌then◌else◌, Option, Some, None, List, [], ◌∷◌, ◌++◌, length, codes}
use Rattle.std.specs.Fmt.{decimal}
use Rattle.std.specs.List.{concat}
use Rattle.ceiling_kernel.specs.declared.trace.Release.{Release}
use Rattle.ceiling_kernel.specs.declared.trace.JobRecord.{JobRecord}
use Rattle.ceiling_kernel.specs.declared.trace.Slice.{Slice}
use Rattle.frames.specs.declared.rows.TaskRow.{TaskRow}
use Rattle.frames.specs.declared.rows.Spot.{Spot}
use Rattle.frames.specs.declared.tones.Toned.{Toned}
use Rattle.picture.specs.declared.waits.Stay.{Stay}
use Rattle.picture.specs.declared.waits.Wait.{Wait}
use Rattle.frames.specs.Frame.{Frame, x_of, sees, top_of}
use Rattle.frames.specs.PictureRows.{each, name_in, record_at, on_spot, place_in, tone_in}
use Rattle.frames.specs.Tones.{tone_named}
use Rattle.picture.specs.Blocking.{blocking_lock}
use Rattle.picture.specs.Waits.{Scene, stay_of, wait_at, is_gathered}

-- a path for a wait for a task above, in its tone or in the neutral ink
abbrev pub ink_path : (gathered : Bool) → (tone : ℕ) → List ℕ
ink_path gathered tone =
    if gathered then codes "<path class=\"wa ns" else codes "<path class=\"wa i" ++ decimal tone

-- a line in the middle of the row at place k, up to its title
abbrev pub wait_line : (x right k : ℕ) → List ℕ
wait_line x right k =
    concat (codes "\" d=\"M" ∷ decimal x ∷ codes " " ∷ decimal (top_of k + 255)
    ∷ codes "H" ∷ decimal right ∷ codes "\"><title>" ∷ [])

-- the same of a class, in an ink
abbrev pub wait_path : (class ink : List ℕ) → (x right k : ℕ) → List ℕ
wait_path class ink x right k = codes "<path class=\"" ++ class ++ ink ++ wait_line x right k

-- by which lock
abbrev pub lock_words : Option (List ℕ) → List ℕ
lock_words None = []
lock_words (Some lock) = concat (codes "with " ∷ lock ∷ codes " " ∷ [])

-- its tone
abbrev pub tone_of_lock : List Toned → Option (List ℕ) → ℕ
tone_of_lock locks None = 0
tone_of_lock locks (Some lock) = tone_named locks lock

-- the title: who waits for whom, and by which lock, from when to when
abbrev pub wait_title : List TaskRow → (k : ℕ) → Wait → (how : List ℕ) → Option (List ℕ) → List ℕ
wait_title rows k w how lock =
    concat (name_in rows k ∷ how ∷ name_in rows w.row ∷ codes " " ∷ lock_words lock ∷ decimal w.start
    ∷ codes " to " ∷ decimal w.stop
    ∷ codes " us</title></path>\n" ∷ [])

-- a wait of a row for a task above: a line in the ink of who executes, or neutral, where it is one line with others
abbrev pub above_text : Scene → Spot → Wait → (gathered : Bool) → List ℕ
above_text c spot w gathered =
    ink_path gathered (tone_in c.rows w.row)
    ++ wait_line (x_of c.frame w.start) (max (x_of c.frame w.stop) (x_of c.frame w.start + 1)) spot.k
    ++ wait_title c.rows spot.rank w (codes " waits for ") None

-- a link in a tone, from the end of a wait at place k down to the bar of the task below, if its row is shown
abbrev pub link_to : Frame → ℕ → Wait → (tone : ℕ) → Option ℕ → List ℕ
link_to f k w tone None = []
link_to f k w tone (Some m) =
    concat (codes "<path class=\"wj d" ∷ decimal tone ∷ codes "\" d=\"M" ∷ decimal (x_of f w.stop)
    ∷ codes " " ∷ decimal (top_of k + 255)
    ∷ codes "V" ∷ decimal (top_of m + 165) ∷ codes "\"/>\n" ∷ [])

-- a wait ends before the window does and is at least 2 pixels wide
abbrev pub has_link : Frame → Wait → Bool
has_link f w = nat_lt w.stop f.to && nat_le (x_of f w.start + 20) (x_of f w.stop)

-- the link of such a wait
abbrev pub link_text : Scene → ℕ → Wait → (tone : ℕ) → List ℕ
link_text c k w tone =
    if has_link c.frame w then link_to c.frame k w tone (place_in c.shown w.row) else []

-- a wait of a row for a task below, which blocks by a lock: dots in its tone, and a link
abbrev pub blocked_text : Scene → Spot → Wait → Option (List ℕ) → List ℕ
blocked_text c spot w lock =
    wait_path (codes "wb d") (decimal (tone_of_lock c.locks lock)) (x_of c.frame w.start + 30)
    (max (x_of c.frame w.stop - 30) (x_of c.frame w.start + 31)) spot.k
    ++ wait_title c.rows spot.rank w (codes " is blocked by ") lock
    ++ link_text c spot.k w (tone_of_lock c.locks lock)

-- the name of who executes, in the middle of a wait, above, where it has room
abbrev pub who_text : Scene → ℕ → Wait → List ℕ
who_text c k w =
    if nat_le (66 * length (name_in c.rows w.row) + 60) (x_of c.frame w.stop - x_of c.frame w.start)
    then concat (codes "<text class=\"wl\" x=\""
    ∷ decimal ((x_of c.frame w.start + x_of c.frame w.stop) / 2)
    ∷ codes "\" y=\"" ∷ decimal (top_of k + 205)
    ∷ codes "\">" ∷ name_in c.rows w.row ∷ codes "</text>\n" ∷ [])
    else []

-- in slice n the job of a stay in a row waits for a task below, or for one above
abbrev pub why_text : Scene → Stay → Spot → ℕ → Wait → List ℕ
why_text c stay spot n w =
    if nat_lt spot.rank w.row
    then blocked_text c spot w (blocking_lock c.rows c.slices spot.rank n w.start w.row)
    else above_text c spot w (is_gathered c stay spot.rank n)

-- a wait, if there is one in the window
abbrev pub wait_text : Scene → Stay → Spot → ℕ → Option Wait → List ℕ
wait_text c stay spot n None = []
wait_text c stay spot n (Some w) =
    if sees c.frame w.start w.stop then why_text c stay spot n w ++ who_text c spot.k w else []

-- the wait in slice n, if there is one
abbrev pub nth_wait_text : Scene → Stay → Spot → ℕ → List ℕ
nth_wait_text c stay spot n = wait_text c stay spot n (wait_at c stay n)

-- the waits of a job, by time
abbrev pub stay_text : Scene → Stay → Spot → List ℕ
stay_text c stay spot = each (length c.slices) (nth_wait_text c stay spot)

-- the waits of job j, in the row of its task
abbrev pub job_waits : Scene → ℕ → List ℕ
job_waits c j =
    on_spot c.rows c.shown (record_at c.jobs j).name (λ spot row. stay_text c (stay_of c j) spot)

-- the waits of each job
abbrev pub waits_text : Frame → List Toned → List TaskRow → (shown : List ℕ) → List Release → List JobRecord → List Slice → List ℕ
waits_text f locks rows shown rs jobs slices =
    each (length jobs)
    (job_waits (record {
      frame = f;
      locks = locks;
      rows = rows;
      shown = shown;
      releases = rs;
      jobs = jobs;
      slices = slices;
    }))
