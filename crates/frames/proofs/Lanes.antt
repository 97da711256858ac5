-- Texts for rows.
use Rattle.std.proofs.Common.{◌≡◌, ℕ, List, sym, ◌∙◌, ap, Option}
use Rattle.std.specs.Prelude.{Some}
use Rattle.frames.specs.PictureRows.{row_at, spot_named, in_spot, on_spot}
use Rattle.frames.specs.Frame.{Frame}
use Rattle.frames.specs.declared.rows.TaskRow.{TaskRow}
use Rattle.frames.specs.declared.rows.Spot.{Spot}

-- a text for a row that a lane has
pub text_in_lane : (text : Frame → Spot → TaskRow → List ℕ) (rows : List TaskRow)
    (f : Frame) (k : Spot) (g : Frame) (j : Spot) (row : TaskRow)
    → g ≡ f → j ≡ k → row ≡ row_at rows k.rank → text g j row ≡ text f k (row_at rows k.rank)
text_in_lane text rows f k g j row frame place is =
    ap (λ (h : Frame). text h j row) frame ∙ ap (λ (i : Spot). text f i row) place
    ∙ ap (text f k) is

-- a text for the spot of a name
pub text_on_spot : (text : Spot → TaskRow → List ℕ) (rows : List TaskRow)
    (shown name : List ℕ) (found : Option Spot) (s : Spot)
    → found ≡ spot_named rows shown name → found ≡ Some s
    → text s (row_at rows s.rank) ≡ on_spot rows shown name text
text_on_spot text rows shown name found s place is =
    ap (in_spot rows text) (sym is ∙ place)
