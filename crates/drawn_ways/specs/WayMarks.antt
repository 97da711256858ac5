-- How a way is drawn: a dot where a job reads, a line along its row to where it writes, from there a line to the row of the job
-- that reads what it wrote, and dots up to where that does.
use Rattle.std.specs.Prelude.{ℕ, ◌+◌, if◌then◌else◌, List, [], ◌∷◌, ◌++◌, codes}
use Rattle.std.specs.Fmt.{decimal}
use Rattle.std.specs.List.{concat}
use Rattle.frames.specs.Frame.{Frame, is_in, sees, top_of, x_of}
use Rattle.frames.specs.Numbers.{times_end}
use Rattle.drawn_ways.specs.declared.marks.Ink.{Ink}
use Rattle.drawn_ways.specs.declared.marks.Ink.TheVariants.{Standing, Next}
use Rattle.drawn_ways.specs.declared.stops.Stop.{Stop}

-- the class of a way's lines
abbrev pub class_of : Ink → List ℕ
class_of Standing = codes "ya"
class_of Next = codes "yb"

-- how high they lie in row k
abbrev pub line_y : Ink → (k : ℕ) → ℕ
line_y Standing k = top_of k + 215
line_y Next k = top_of k + 295

-- a path, up to where it begins
abbrev pub path_head : Ink → (class : List ℕ) → (x k : ℕ) → List ℕ
path_head ink class x k =
    concat (codes "<path class=\"" ∷ class_of ink ∷ class ∷ codes "\" d=\"M" ∷ decimal x ∷ codes " "
    ∷ decimal (line_y ink k) ∷ [])

-- its end: a line to the right, and what it tells of a chain
abbrev pub path_end : (right : ℕ) → (chain how : List ℕ) → Stop → List ℕ
path_end right chain how s =
    concat (codes "H" ∷ decimal right ∷ codes "\"><title>" ∷ chain ∷ how ∷ s.name ∷ codes " "
    ∷ times_end s.start s.stop ∷ [])

-- a line along a row, where it is seen, and what it tells of a chain
abbrev pub along_text : Frame → Ink → (class : List ℕ) → (chain how : List ℕ) → Stop → List ℕ
along_text f ink class chain how s =
    if sees f s.start s.stop
    then path_head ink class (x_of f s.start) s.k ++ path_end (x_of f s.stop) chain how s
    else []

-- ---- a job
-- a dot, where it reads in the window
abbrev pub dot_text : Frame → Ink → Stop → List ℕ
dot_text f ink s =
    if is_in f s.start then path_head ink (codes " yd") (x_of f s.start) s.k ++ codes "h1\"/>\n" else []

-- the same, and a line
abbrev pub job_text : Frame → Ink → (chain : List ℕ) → Stop → List ℕ
job_text f ink chain s = dot_text f ink s ++ along_text f ink [] chain (codes ": ") s

-- ---- from job to job
-- a line to the row of the next one, where the job writes in the window
abbrev pub turn_text : Frame → Ink → Stop → (next : Stop) → List ℕ
turn_text f ink s next =
    if is_in f s.stop
    then path_head ink [] (x_of f s.stop) s.k
    ++ concat (codes "V" ∷ decimal (line_y ink next.k) ∷ codes "\"/>\n" ∷ [])
    else []

-- what it wrote, until the next one reads
abbrev pub wait_of : Stop → (next : Stop) → Stop
wait_of s next = record { name = next.name; k = next.k; start = s.stop; stop = next.start }

abbrev pub link_text : Frame → Ink → (chain : List ℕ) → Stop → (next : Stop) → List ℕ
link_text f ink chain s next =
    turn_text f ink s next ++ along_text f ink (codes " yw") chain (codes ": waits for ") (wait_of s next)

-- ---- the way, of which the last job stands first
-- how what the last of the jobs before one wrote comes to that, if there are some
abbrev pub link_to_text : Frame → Ink → (chain : List ℕ) → Stop → (before : List Stop) → List ℕ
link_to_text f ink chain s [] = []
link_to_text f ink chain s (last ∷ before) = link_text f ink chain last s

-- the same, and the job
abbrev pub stop_text : Frame → Ink → (chain : List ℕ) → Stop → (before : List Stop) → List ℕ
stop_text f ink chain s before = link_to_text f ink chain s before ++ job_text f ink chain s

abbrev pub stops_text : Frame → Ink → (chain : List ℕ) → List Stop → List ℕ
stops_text f ink chain [] = []
stops_text f ink chain (s ∷ before) =
    stop_text f ink chain s before ++ stops_text f ink chain before
