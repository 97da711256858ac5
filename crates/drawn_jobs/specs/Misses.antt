-- Which jobs miss their deadlines, and how they are drawn.
use Rattle.std.specs.Prelude.{ℕ, zero, suc, ◌+◌, ◌-◌, max, Bool, true, false, ◌&&◌, nat_le, nat_lt, if◌then◌else◌, Option, Some, None, List, [], ◌∷◌, ◌++◌, length, codes}
use Rattle.std.specs.Fmt.{decimal}
use Rattle.std.specs.List.{concat, count_by}
use Rattle.task_sheet.specs.Demand.{greatest_of}
use Rattle.task_sheet.specs.Sheet.{same_bytes}
use Rattle.ceiling_kernel.specs.declared.trace.JobRecord.{JobRecord}
use Rattle.frames.specs.declared.rows.TaskRow.{TaskRow}
use Rattle.frames.specs.Frame.{Frame, x_of, sees, top_of, ended}
use Rattle.frames.specs.PictureRows.{at_places, each, row_at, row_named, record_at}
use Rattle.frames.specs.Boxes.{box_path}
use Rattle.drawn_jobs.specs.Jobs.{limit_of, job_words, job_signs}

-- a job that has to be done so long after its arrival is done later, or isn't done by an end that isn't earlier
abbrev pub is_behind : (arrival deadline end : ℕ) → Option ℕ → Bool
is_behind arrival deadline end (Some finish) = nat_lt deadline (finish - arrival)
is_behind arrival deadline end None = nat_le deadline (end - arrival)

-- a job of a row's task misses its deadline
abbrev pub is_late : Frame → TaskRow → JobRecord → Bool
is_late f row job = is_behind job.release row.sheet.deadline f.until job.finish

-- it is one of the row's task
abbrev pub misses_in : Frame → TaskRow → JobRecord → Bool
misses_in f row job = same_bytes job.name row.sheet.name && is_late f row job

-- how many jobs of a row's task do
abbrev pub missed_in : Frame → TaskRow → List JobRecord → ℕ
missed_in f row jobs = count_by (misses_in f row) jobs

-- how long after a deadline a job is done; 0 where it isn't done later
abbrev pub done_behind : (arrival deadline : ℕ) → Option ℕ → ℕ
done_behind arrival deadline (Some finish) = finish - arrival - deadline
done_behind arrival deadline None = 0

-- the same of a job of a row's task
abbrev pub late_by : TaskRow → JobRecord → ℕ
late_by row job =
    if same_bytes job.name row.sheet.name
    then done_behind job.release row.sheet.deadline job.finish
    else 0

-- the longest of a row's task
abbrev pub latest_in : TaskRow → List JobRecord → ℕ
latest_in row jobs = greatest_of (late_by row) jobs

-- a job of the task of a row, if there is one
abbrev pub is_late_at : Frame → List TaskRow → JobRecord → Option ℕ → Bool
is_late_at f rows job None = false
is_late_at f rows job (Some k) = is_late f (row_at rows k) job

-- a job misses its deadline
abbrev pub misses : Frame → List TaskRow → JobRecord → Bool
misses f rows job = is_late_at f rows job (row_named rows job.name)

-- how many jobs of all do
abbrev pub all_missed : Frame → List TaskRow → List JobRecord → ℕ
all_missed f rows jobs = count_by (misses f rows) jobs

-- a disc with a cross
abbrev pub badge_text : (x y : ℕ) → List ℕ
badge_text x y =
    concat (codes "<path class=\"x\" d=\"M" ∷ decimal x ∷ codes " " ∷ decimal y
    ∷ codes "h1\"/><path class=\"y\" d=\"M" ∷ decimal x ∷ codes " " ∷ decimal y
    ∷ codes "m-38-38l76 76m0-76l-76 76\"/>\n" ∷ [])

-- from the deadline up to the finish, or to the end
abbrev pub hatch_path : Frame → (k : ℕ) → TaskRow → JobRecord → List ℕ
hatch_path f k row job =
    box_path (x_of f (job.release + row.sheet.deadline))
    (max (x_of f (ended f job)) (x_of f (job.release + row.sheet.deadline) + 20))
    (top_of k + 145) 220

-- that, and what is told of it
abbrev pub hatch_text : (path : List ℕ) → TaskRow → JobRecord → List ℕ
hatch_text path row job =
    concat (codes "<path class=\"z\" d=\"" ∷ path ∷ codes "\"><title>"
    ∷ job_words job.name job.release job.finish ∷ codes ", deadline " ∷ decimal row.sheet.deadline
    ∷ codes " us missed</title></path>\n" ∷ [])

-- a job of a row's task misses its deadline in the window
abbrev pub is_seen_miss : Frame → TaskRow → JobRecord → Bool
is_seen_miss f row job =
    misses_in f row job && nat_le (job.release + row.sheet.deadline) f.to && nat_lt f.from (ended f job)

-- the last badge, if there is one, is 18 pixels before a place
abbrev pub is_clear : (last : Option ℕ) → (x : ℕ) → Bool
is_clear None x = true
is_clear (Some last) x = nat_le (last + 180) x

-- a deadline has a badge, where it isn't before the window and the last one isn't too close
abbrev pub has_badge : Frame → (last : Option ℕ) → (due : ℕ) → Bool
has_badge f last due = nat_le f.from due && is_clear last (x_of f due)

-- the last badge behind a job
abbrev pub badge_after : Frame → TaskRow → (last : Option ℕ) → JobRecord → Option ℕ
badge_after f row last job =
    if is_seen_miss f row job && has_badge f last (job.release + row.sheet.deadline)
    then Some (x_of f (job.release + row.sheet.deadline))
    else last

-- the last badge of a row before job n
unfoldable pub badge_before : Frame → TaskRow → List JobRecord → ℕ → Option ℕ
badge_before f row jobs zero = None
badge_before f row jobs (suc n) = badge_after f row (badge_before f row jobs n) (record_at jobs n)

-- a badge at a deadline
abbrev pub due_badge : Frame → (k : ℕ) → (last : Option ℕ) → (due : ℕ) → List ℕ
due_badge f k last due =
    if has_badge f last due then badge_text (x_of f due) (top_of k + 85) else []

-- signs where the job goes on before and behind the window, of which its box has none that isn't in the window
abbrev pub late_signs : Frame → (k : ℕ) → TaskRow → JobRecord → List ℕ
late_signs f k row job =
    if sees f job.release (job.release + limit_of row) then [] else job_signs f k job

-- how a job is drawn: that, a badge at the deadline, and those signs
abbrev pub miss_text : Frame → (k : ℕ) → TaskRow → (last : Option ℕ) → JobRecord → List ℕ
miss_text f k row last job =
    if is_seen_miss f row job
    then hatch_text (hatch_path f k row job) row job ++ due_badge f k last (job.release + row.sheet.deadline)
    ++ late_signs f k row job
    else []

-- how those of a row are
abbrev pub row_misses : Frame → List JobRecord → (k : ℕ) → TaskRow → List ℕ
row_misses f jobs k row =
    each (length jobs) (λ i. miss_text f k row (badge_before f row jobs i) (record_at jobs i))

-- what is missed in each row
abbrev pub misses_text : Frame → List TaskRow → (shown : List ℕ) → List JobRecord → List ℕ
misses_text f rows shown jobs = at_places rows shown (λ s. row_misses f jobs s.k)
