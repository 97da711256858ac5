-- The scale, and the lines of the rows.
use Rattle.std.specs.Prelude.{ℕ, ◌+◌, ◌-◌, min, nat_lt, if◌then◌else◌, List, [], ◌∷◌, codes}
use Rattle.std.specs.Fmt.{decimal}
use Rattle.std.specs.List.{concat}
use Rattle.frames.specs.Frame.{Frame, x_of, frame_end, in_millis, time_letters, top_of}
use Rattle.frames.specs.Numbers.{time_text}

-- a number stands in the middle of its line; one of seven letters or more, which is wider than the edge, 9 pixels before the
-- end at the latest
abbrev pub number_x : Frame → (time : ℕ) → ℕ
number_x f time =
    if nat_lt (time_letters (in_millis f) time) 7 then x_of f time
    else min (x_of f time) (frame_end f - 90)

-- a line down through the rows, and its time
abbrev pub tick_text : Frame → (bottom time : ℕ) → List ℕ
tick_text f bottom time =
    concat (codes "<path class=\"g\" d=\"M" ∷ decimal (x_of f time) ∷ codes " 1230V"
    ∷ decimal bottom
    ∷ codes "\"/><text class=\"s\" x=\"" ∷ decimal (number_x f time)
    ∷ codes "\" y=\"1200\">"
    ∷ time_text (in_millis f) time ∷ codes "</text>\n" ∷ [])

-- the line between rows, and the line of a row, below its bars
abbrev pub line_text : Frame → ℕ → List ℕ
line_text f k =
    concat (codes "<path class=\"g\" d=\"M100 " ∷ decimal (top_of k) ∷ codes "H"
    ∷ decimal (frame_end f)
    ∷ codes "\"/><path class=\"l\" d=\"M" ∷ decimal f.left ∷ codes " "
    ∷ decimal (top_of k + 345)
    ∷ codes "H" ∷ decimal (frame_end f) ∷ codes "\"/>\n" ∷ [])
