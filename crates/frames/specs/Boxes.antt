-- Boxes.
use Rattle.std.specs.Prelude.{ℕ, ◌+◌, List, [], ◌∷◌, codes}
use Rattle.std.specs.Fmt.{decimal}
use Rattle.std.specs.List.{concat}
use Rattle.frames.specs.Frame.{Frame, x_of, right_of, top_of}

-- a box from a place up to another, and so high
abbrev pub box_path : (x right y high : ℕ) → List ℕ
box_path x right y high =
    concat (codes "M" ∷ decimal x ∷ codes " " ∷ decimal y ∷ codes "H" ∷ decimal right ∷ codes "v"
    ∷ decimal high
    ∷ codes "H" ∷ decimal x ∷ codes "z" ∷ [])

-- the box from a time up to another, as high as a bar, in row k
abbrev pub span_text : Frame → (k start stop : ℕ) → List ℕ
span_text f k start stop = box_path (x_of f start) (right_of f start stop) (top_of k + 165) 180
