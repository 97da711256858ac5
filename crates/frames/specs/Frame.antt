-- How time and rows lie in the picture, in units of which ten are a pixel.
use Rattle.std.specs.Prelude.{ℕ, ◌+◌, ◌-◌, ◌*◌, ◌/◌, ◌%◌, ◌<◌, ◌≤◌, min, max, Bool, ◌&&◌, nat_le, nat_lt, ◌==◌, if◌then◌else◌, Option, Some, None, List, [], ◌∷◌, length}
use Rattle.ceiling_kernel.specs.declared.accept.TheConstants.{HORIZON}
use Rattle.task_sheet.specs.declared.set.TheConstants.{TASK_LIMIT}
use Rattle.task_sheet.specs.declared.sheet.TheConstants.{PERIOD_TO}
use Rattle.frames.specs.declared.frame.TheConstants.{NARROWEST, WIDEST, RIGHTMOST, LEAST_MARGIN, WIDEST_MARGIN, WIDEST_DECADE}
use Rattle.frames.specs.declared.rows.TaskRow.{TaskRow}
use Rattle.frames.specs.declared.view.View.{View}
use Rattle.frames.specs.View.{end_of_run, window_end}
use Rattle.std.specs.Option.{unwrap_or}
use Rattle.ceiling_kernel.specs.declared.trace.JobRecord.{JobRecord}

-- when a run ends, and the window of it, in microseconds; where the window begins and how wide it is, how many tasks there
-- are, and the number of the A size of the paper, if it is printed
pub record Frame : Type 0 where
  pub until : ℕ
  pub from : ℕ
  pub to : ℕ
  pub left : ℕ
  pub span : ℕ
  pub count : ℕ
  pub paper : Option ℕ

-- there is some time in the window, which ends within the horizon as the run does, and the picture's width is within its
-- limits
pub record IsFrame (f : Frame) : Type 0 where
  pub some : f.from < f.to
  pub inside : f.to ≤ HORIZON
  pub within : f.until ≤ HORIZON
  pub margin : f.left ≤ WIDEST_MARGIN
  pub wide : NARROWEST ≤ f.left + f.span
  pub narrow : f.left + f.span ≤ RIGHTMOST
  pub few : f.count ≤ TASK_LIMIT

-- the shortest period, or one that was found before
abbrev pub least_period : ℕ → List TaskRow → ℕ
least_period least [] = least
least_period least (row ∷ rows) = least_period (min least row.sheet.period) rows

-- how many digits so many microseconds, ten seconds at most, have before the point, in milliseconds
abbrev pub whole_digits : ℕ → ℕ
whole_digits time =
    if nat_lt time 10000 then 1
    else if nat_lt time 100000 then 2
    else if nat_lt time 1000000 then 3
    else if nat_lt time 10000000 then 4
    else 5

-- how many letters they have with what stands behind it
abbrev pub millis_letters : ℕ → ℕ
millis_letters time =
    if time % 1000 == 0 then whole_digits time
    else if time % 100 == 0 then whole_digits time + 2
    else if time % 10 == 0 then whole_digits time + 3
    else whole_digits time + 4

-- all times of a picture are in milliseconds where its window has ten of them, else in microseconds
abbrev pub is_in_millis : (window : ℕ) → Bool
is_in_millis window = nat_le 10000 window

-- how many letters a time has in the picture's unit: in microseconds three digits stand behind the whole milliseconds
abbrev pub time_letters : (millis : Bool) → ℕ → ℕ
time_letters millis time = if millis then millis_letters time else whole_digits time + 3

-- how many letters the line below a row's name has
abbrev pub letters_of : (millis : Bool) → (deadline : ℕ) → (bound : Option ℕ) → ℕ
letters_of millis deadline (Some bound) =
    13 + time_letters millis bound + time_letters millis deadline
letters_of millis deadline None = 12 + time_letters millis deadline

abbrev pub limits_letters : (millis : Bool) → TaskRow → ℕ
limits_letters millis row = letters_of millis row.sheet.deadline row.bound

-- how wide the number of a thread is behind a name, where there is one
abbrev pub number_room : Option ℕ → ℕ
number_room None = 0
number_room (Some number) = if nat_lt number 1000 then 250 else 500

-- how wide the margin is to be for a row
abbrev pub margin_of : (millis : Bool) → TaskRow → ℕ
margin_of millis row =
    min (max (700 + 78 * length row.sheet.name + number_room row.number)
    (640 + 62 * limits_letters millis row)) WIDEST_MARGIN

-- the widest for some rows, or one that was found before
abbrev pub widest_margin : (millis : Bool) → ℕ → List TaskRow → ℕ
widest_margin millis most [] = most
widest_margin millis most (row ∷ rows) =
    widest_margin millis (max most (margin_of millis row)) rows

-- how wide it is: where time begins
abbrev pub left_of : (millis : Bool) → List TaskRow → ℕ
left_of millis rows = widest_margin millis LEAST_MARGIN rows

-- how wide so much time is, to the right of a margin: so many pixels in all, where that is said; else the shortest period
-- is 24 pixels wide where the picture is from 960 to 1,600 then
abbrev pub span_of : (width : Option ℕ) → (left least time : ℕ) → ℕ
span_of None left least time = max (min (240 * time / least) (WIDEST - left)) (NARROWEST - left)
span_of (Some width) left least time = max (min (10 * width - 200) RIGHTMOST) NARROWEST - left

-- the frame of a run up to a time, and of a window of it
abbrev pub frame_in : (width paper : Option ℕ) → (count left least until from to : ℕ) → Frame
frame_in width paper count left least until from to = record {
  until = until;
  from = from;
  to = to;
  left = left;
  span = span_of width left least (to - from);
  count = count;
  paper = paper;
}

-- where the window ends, and where it begins: there is some time between
abbrev pub frame_to : View → (until : ℕ) → ℕ
frame_to v until = max (window_end v until) 1

abbrev pub frame_from : View → (until : ℕ) → ℕ
frame_from v until = min v.from (frame_to v until - 1)

-- the frame of a view of a run of these rows
abbrev pub frame_of : List TaskRow → View → (until : ℕ) → Frame
frame_of rows v until =
    frame_in v.width v.paper (length rows)
    (left_of (is_in_millis (frame_to v until - frame_from v until)) rows)
    (max (least_period PERIOD_TO rows) 1) (end_of_run until) (frame_from v until)
    (frame_to v until)

-- the frame of one of two runs side by side, which ends by itself, of so many tasks: in both time lies the same, up to the
-- later end, behind the wider of their margins, and by the shorter of their shortest periods
abbrev pub frame_beside : (count : ℕ) → (old new : List TaskRow) → View → (end until : ℕ) → Frame
frame_beside count old new v end until =
    frame_in v.width v.paper count
    (max (left_of (is_in_millis (frame_to v until - frame_from v until)) old)
    (left_of (is_in_millis (frame_to v until - frame_from v until)) new))
    (max (min (least_period PERIOD_TO old) (least_period PERIOD_TO new)) 1) (end_of_run end)
    (frame_from v until) (frame_to v until)

-- its times are in milliseconds
abbrev pub in_millis : Frame → Bool
in_millis f = is_in_millis (f.to - f.from)

-- where a time lies; those before the window lie at its beginning, and those behind it at its end
abbrev pub x_of : Frame → ℕ → ℕ
x_of f time = f.left + (min (max time f.from) f.to - f.from) * f.span / (f.to - f.from)

-- a time is in the window
abbrev pub is_in : Frame → (time : ℕ) → Bool
is_in f time = nat_le f.from time && nat_le time f.to

-- a span of time that has a tick is partly in it
abbrev pub sees : Frame → (start stop : ℕ) → Bool
sees f start stop = nat_lt start f.to && nat_lt f.from stop

-- where the end lies
abbrev pub frame_end : Frame → ℕ
frame_end f = f.left + f.span

-- where a bar ends, which is at least half a pixel wide
abbrev pub right_of : Frame → ℕ → ℕ → ℕ
right_of f start stop = max (x_of f stop) (x_of f start + 5)

-- where a row begins, from 0
abbrev pub top_of : ℕ → ℕ
top_of k = 1690 + 480 * k

-- the level of a task by its rank, from the highest level down
abbrev pub level_of : Frame → (rank : ℕ) → ℕ
level_of f rank = f.count - rank

-- ---- the scale
-- a step is at least 80 pixels wide
abbrev pub is_wide : Frame → ℕ → Bool
is_wide f step = nat_le (800 * (f.to - f.from)) (step * f.span)

-- the least power of ten of which five are wide enough; a second, where none is less
abbrev pub decade_of : Frame → ℕ
decade_of f =
    if is_wide f 5 then 1
    else if is_wide f 50 then 10
    else if is_wide f 500 then 100
    else if is_wide f 5000 then 1000
    else if is_wide f 50000 then 10000
    else if is_wide f 500000 then 100000
    else WIDEST_DECADE

-- the first of a power of ten, two of it and five of it that is wide enough; five of it where the others aren't
abbrev pub step_in : Frame → ℕ → ℕ
step_in f power =
    if is_wide f power then power else if is_wide f (2 * power) then 2 * power else 5 * power

-- the scale's step, in microseconds: the first of 1, 2, 5, 10, 20, 50 .. that is wide enough
abbrev pub step_of : Frame → ℕ
step_of f = step_in f (decade_of f)

-- how many steps lie before the window
abbrev pub steps_before : Frame → (step : ℕ) → ℕ
steps_before f step = (f.from + step - 1) / step

-- when a job is done, or the end of the run
abbrev pub ended : Frame → JobRecord → ℕ
ended f job = unwrap_or job.finish f.until
