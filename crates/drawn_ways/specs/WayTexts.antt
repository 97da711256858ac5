-- What is drawn of a chain in the picture of a run, and where it stands in the document.
use Rattle.std.specs.Prelude.{ℕ, ◌+◌, ◌-◌, ◌*◌, ◌/◌, min, max, nat_lt, if◌then◌else◌, List, [], ◌∷◌, ◌++◌, codes, take, length, Option, Some, None}
use Rattle.std.specs.Fmt.{decimal}
use Rattle.std.specs.List.{concat}
use Rattle.std.specs.Option.{option_map}
use Rattle.task_sheet.specs.Sheet.{Task}
use Rattle.ceiling_kernel.specs.declared.trace.Trace.{Trace}
use Rattle.chains.specs.declared.bounds.Writes.{Writes}
use Rattle.chain_runs.specs.ChainOutputs.{outputs_of}
use Rattle.chain_runs.specs.declared.outputs.ChainOutput.{ChainOutput}
use Rattle.frames.specs.Frame.{Frame, frame_end, in_millis, sees, top_of, x_of}
use Rattle.frames.specs.Numbers.{time_text, unit_text}
use Rattle.frames.specs.declared.rows.TaskRow.{TaskRow}
use Rattle.drawn_ways.specs.Legs.{path_at}
use Rattle.drawn_ways.specs.Sources.{outputs_in}
use Rattle.drawn_ways.specs.Stands.{age_of, oldest}
use Rattle.drawn_ways.specs.Stops.{stops_of}
use Rattle.drawn_ways.specs.WayMarks.{along_text, stops_text}
use Rattle.drawn_ways.specs.WaySigns.{signed}
use Rattle.drawn_ways.specs.declared.legs.Leg.{Leg}
use Rattle.drawn_ways.specs.declared.marks.Ink.TheVariants.{Standing, Next}
use Rattle.drawn_ways.specs.declared.stands.Stand.{Stand}
use Rattle.drawn_ways.specs.declared.stops.Stop.{Stop}
use Rattle.drawn_ways.specs.declared.style.TheConstants.{STYLE}
use Rattle.drawn_ways.specs.declared.ground.Ground.{Ground}
use Rattle.drawn_ways.specs.declared.way.Way.{Way}

-- a chain: its name, when its tasks write, these by index, the first one first, and its bound in microseconds, if it has one
pub record WayData : Type 0 where
  pub name : List ℕ
  pub writes : Writes
  pub tasks : List ℕ
  pub bound : Option ℕ

-- what it is drawn from: how time lies, the set, the rows and which of them are shown, and what comes of the chain of any tasks
pub record GroundData : Type 0 where
  pub frame : Frame
  pub set : List Task
  pub rows : List TaskRow
  pub shown : List ℕ
  pub outputs : (tasks : List ℕ) → List ChainOutput

abbrev pub way_of : Way → WayData
way_of w = record { name = w.name; writes = w.writes; tasks = w.tasks.now; bound = w.bound }

abbrev pub ground_of : Ground → GroundData
ground_of g = record {
  frame = g.frame;
  set = g.set.now;
  rows = g.rows.now;
  shown = g.shown.now;
  outputs = outputs_in g.source.now;
}

-- ---- how old it gets
-- a time in the picture's unit, or `-` where there is none
abbrev pub told_time : Frame → Option ℕ → List ℕ
told_time f None = codes "-"
told_time f (Some time) = time_text (in_millis f) time ++ unit_text (in_millis f)

-- half of the room that a chain's name and an age take
abbrev pub half_room : (chain : List ℕ) → ℕ
half_room chain = 450 + 35 * length chain

-- where its middle lies: in the middle of the line, as far as there is room
abbrev pub age_x : Frame → (chain : List ℕ) → Stop → ℕ
age_x f chain s =
    min (max ((x_of f s.start + x_of f s.stop) / 2) (f.left + half_room chain))
    (frame_end f - half_room chain)

-- the chain, and how old it gets, above a line that is seen
abbrev pub age_text : Frame → (chain : List ℕ) → Stop → (age : ℕ) → List ℕ
age_text f chain s age =
    if sees f s.start s.stop
    then concat (codes "<text class=\"yt\" x=\"" ∷ decimal (age_x f chain s) ∷ codes "\" y=\""
    ∷ decimal (top_of s.k + 140) ∷ codes "\">" ∷ chain ∷ codes " " ∷ told_time f (Some age)
    ∷ codes "</text>\n" ∷ [])
    else []

-- from when to when it stands, in the row of the last task's job
abbrev pub stay_of : Stand → Stop → Stop
stay_of s last = record { name = last.name; k = last.k; start = s.since; stop = s.until }

abbrev pub stay_text : Frame → (chain : List ℕ) → Stand → Stop → List ℕ
stay_text f chain s last =
    along_text f Standing (codes " ys") chain (codes ": stands behind ") (stay_of s last)
    ++ age_text f chain (stay_of s last) (age_of s)

-- the same by the jobs of its path, of which the last stands first
abbrev pub stay_behind : Frame → (chain : List ℕ) → Stand → List Stop → List ℕ
stay_behind f chain s [] = []
stay_behind f chain s (last ∷ stops) = stay_text f chain s last

-- ---- the ways
-- a path, where it is one of a later output
abbrev pub later : (since : ℕ) → List Leg → List Leg
later since [] = []
later since (l ∷ ls) = if nat_lt since l.stop then l ∷ ls else []

-- the jobs of the path of what stands at a time
abbrev pub stops_at : GroundData → WayData → (time : ℕ) → List Stop
stops_at g w time = stops_of g.set g.rows g.shown (path_at g.outputs w.tasks time)

-- those of the path of what comes then
abbrev pub stops_then : GroundData → WayData → Stand → List Stop
stops_then g w s = stops_of g.set g.rows g.shown (later s.since (path_at g.outputs w.tasks s.until))

-- the way of what comes next, that of what stands longest, and how it stands
abbrev pub ways_text : GroundData → WayData → Stand → List ℕ
ways_text g w s =
    stops_text g.frame Next w.name (stops_then g w s)
    ++ stops_text g.frame Standing w.name (stops_at g w s.since)
    ++ stay_behind g.frame w.name s (stops_at g w s.since)

-- the same, where something stands
abbrev pub ways_of : GroundData → WayData → Option Stand → List ℕ
ways_of g w None = []
ways_of g w (Some s) = ways_text g w s

-- ---- all
-- the chain, the greatest age in the window, and the bound, below the rows
abbrev pub chain_line : GroundData → WayData → (age : Option ℕ) → List ℕ
chain_line g w age =
    concat (codes "<text x=\"100\" y=\"" ∷ decimal (top_of (length g.shown) + 95) ∷ codes "\">chain "
    ∷ w.name ∷ codes ": age " ∷ told_time g.frame age ∷ codes " of bound " ∷ told_time g.frame w.bound
    ∷ codes "</text>\n" ∷ [])

abbrev pub drawn_of : GroundData → WayData → Option Stand → List ℕ
drawn_of g w s =
    STYLE.now ++ signed w.writes (ways_of g w s) ++ chain_line g w (option_map age_of s)

-- what is drawn of a chain in a run
abbrev pub way_text : Frame → List Task → List TaskRow → (shown : List ℕ) → Trace → WayData → List ℕ
way_text f U rows shown trace w =
    drawn_of (record {
      frame = f;
      set = U;
      rows = rows;
      shown = shown;
      outputs = outputs_of w.writes U f.until trace;
    }) w (oldest f.from f.to (outputs_of w.writes U f.until trace w.tasks))

-- a document with something in front of its last tag
abbrev pub laid_over : (document over : List ℕ) → List ℕ
laid_over document over = take (length document - 7) document ++ (over ++ codes "</svg>\n")
