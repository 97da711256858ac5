-- The marks of releases.
use Rattle.std.specs.Prelude.{ℕ, ◌+◌, ◌&&◌, nat_lt, if◌then◌else◌, Option, Some, None, List, [], ◌∷◌, ◌++◌, length, codes}
use Rattle.std.specs.Fmt.{decimal}
use Rattle.std.specs.List.{concat}
use Rattle.ceiling_kernel.specs.declared.trace.Release.{Release}
use Rattle.ceiling_kernel.specs.declared.trace.JobRecord.{JobRecord}
use Rattle.frames.specs.declared.rows.TaskRow.{TaskRow}
use Rattle.drawn_jobs.specs.declared.marks.Mark.{Mark}
use Rattle.drawn_jobs.specs.declared.marks.Mark.TheVariants.{Arrival, Ready, Bound, Deadline}
use Rattle.frames.specs.Frame.{Frame, x_of, is_in, sees, top_of}
use Rattle.frames.specs.PictureRows.{each, on_spot}
use Rattle.ceiling_kernel.specs.Releases.{release_at}
use Rattle.pieces.specs.Bands.{is_banded}
use Rattle.drawn_jobs.specs.Bands.{gap_of}

-- a line up to when a job becomes ready, where that is later
abbrev pub ready_text : Frame → Release → (y : ℕ) → List ℕ
ready_text f r y =
    if nat_lt 0 r.late && sees f r.time (r.time + r.late)
    then concat (codes "M" ∷ decimal (x_of f r.time) ∷ codes " " ∷ decimal y ∷ codes "H"
    ∷ decimal (x_of f (r.time + r.late))
    ∷ codes "\n" ∷ [])
    else []

-- a mark of a shape so long after an arrival, where that is in the picture
abbrev pub later_text : Frame → Release → (len y : ℕ) → (shape : List ℕ) → List ℕ
later_text f r len y shape =
    if is_in f (r.time + len)
    then concat (codes "M" ∷ decimal (x_of f (r.time + len)) ∷ codes " " ∷ decimal y ∷ shape ∷ [])
    else []

-- a bracket at a bound, where there is one
abbrev pub bound_text : Frame → Release → (y : ℕ) → Option ℕ → List ℕ
bound_text f r y None = []
bound_text f r y (Some bound) = later_text f r bound y (codes "h-35m35 0v40m0 120v40h-35\n")

-- a mark of a release in row k: an arrow up, a line, a bracket at the bound, an arrow down
abbrev pub mark_text : Frame → Mark → Release → ℕ → TaskRow → List ℕ
mark_text f Arrival r k row =
    later_text f r 0 (top_of k + 450) (codes "v-100m-35 50l35-50 35 50\n")
mark_text f Ready r k row = ready_text f r (top_of k + 255)
mark_text f Bound r k row = bound_text f r (top_of k + 155) row.bound
mark_text f Deadline r k row =
    later_text f r row.sheet.deadline (top_of k + 60) (codes "v100m0 0l-35-50h70z\n")

-- a mark of a kind for release i, whose job stands alone
abbrev pub mark_alone : Frame → List TaskRow → (shown : List ℕ) → List JobRecord → Mark → (i : ℕ) → Release → List ℕ
mark_alone f rows shown jobs mark i r =
    if is_banded (gap_of f) jobs i then []
    else on_spot rows shown r.name (λ s. mark_text f mark r s.k)

-- the same for each
abbrev pub each_mark : Frame → List TaskRow → (shown : List ℕ) → List JobRecord → Mark → List Release → List ℕ
each_mark f rows shown jobs mark rs =
    each (length rs) (λ i. mark_alone f rows shown jobs mark i (release_at rs i))

-- the marks of a kind, as one path of a class
abbrev pub marks_text : Frame → List TaskRow → (shown : List ℕ) → List JobRecord → Mark → (class : List ℕ) → List Release → List ℕ
marks_text f rows shown jobs mark class rs =
    concat (codes "<path class=\"" ∷ class ∷ codes "\" d=\"\n" ∷ [])
    ++ each_mark f rows shown jobs mark rs ++ codes "\"/>\n"

-- the marks of all kinds
abbrev pub all_marks : Frame → List TaskRow → (shown : List ℕ) → List JobRecord → List Release → List ℕ
all_marks f rows shown jobs rs =
    marks_text f rows shown jobs Ready (codes "r") rs
    ++ marks_text f rows shown jobs Arrival (codes "a") rs
    ++ marks_text f rows shown jobs Bound (codes "b") rs
    ++ marks_text f rows shown jobs Deadline (codes "d") rs
