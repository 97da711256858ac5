-- The document of a view.
use Rattle.std.proofs.Common.{◌≡◌, ℕ, List, refl, string_bytes}
use Rattle.ceiling_kernel.specs.declared.trace.Release.{Release}
use Rattle.ceiling_kernel.specs.declared.trace.JobRecord.{JobRecord}
use Rattle.ceiling_kernel.specs.declared.trace.Slice.{Slice}
use Rattle.ceiling_kernel.specs.declared.trace.Trace.{Trace}
use Rattle.frames.specs.declared.rows.TaskRow.{TaskRow}
use Rattle.frames.specs.declared.tones.Toned.{Toned}
use Rattle.frames.specs.declared.view.View.{View}
use Rattle.frames.specs.Frame.{Frame, frame_of}
use Rattle.frames.specs.Locks.{locks_of}
use Rattle.frames.specs.View.{shown_of}
use Rattle.picture.specs.Beside.{Run, body_beside, scene_at}
use Rattle.picture.specs.Document.{document, framed}
use Rattle.picture.specs.Waits.{Scene}

pub document_of : (rows : List TaskRow) (v : View) (until : ℕ) (rs : List Release) (trace : Trace)
    (f : Frame) (title : List ℕ) (locks : List Toned) (shown : List ℕ) (jobs : List JobRecord)
    (slices : List Slice)
    → f ≡ frame_of rows v until → title ≡ string_bytes v.title → locks ≡ locks_of rows → shown
    ≡ shown_of v.tasks.items rs rows → jobs ≡ trace.jobs.items → slices ≡ trace.slices.items
    → framed f title locks rows shown until rs jobs slices ≡ document rows v until rs trace
document_of rows v until rs trace f title locks shown jobs slices frame titled locked chosen
    job slice =
    rw frame (rw titled (rw locked (rw chosen (rw job (rw slice refl)))))

-- ---- of two runs
-- a run in the same frame, with the same locks, at the same places
pub scene_same : (run : Run) {f g : Frame} {locks held : List Toned} {shown places : List ℕ}
    → f ≡ g → locks ≡ held → shown ≡ places → scene_at f locks run shown ≡ scene_at g held run places
scene_same run frame locked placed = rw frame (rw locked (rw placed refl))

-- what is drawn of the same
pub beside_of : {o n old new : Scene} {title words : List ℕ} {was is p q : ℕ}
    → o ≡ old → n ≡ new → title ≡ words → p ≡ was → q ≡ is
    → body_beside o n title p q ≡ body_beside old new words was is
beside_of before after titled one other =
    rw before (rw after (rw titled (rw one (rw other refl))))
