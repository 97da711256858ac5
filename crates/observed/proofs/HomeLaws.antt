-- Slices whose jobs' places stand apart.
use Rattle.std.proofs.Common.{◌≡◌, ℕ, Bool, true, false, List, [], ◌∷◌, refl, ap}
use Rattle.std.specs.Prelude.{map}
use Rattle.trace_text.specs.declared.rows.TraceJob.{TraceJob}
use Rattle.trace_text.specs.declared.rows.TraceSlice.{TraceSlice}
use Rattle.observed.specs.Near.{near}
use Rattle.observed.specs.Pieces.{job_of, piece_of, pieces_at, pieces_of}
use Rattle.observed.specs.declared.pieces.Piece.{Piece}
use Rattle.observed.specs.declared.promises.Promise.{Promise}

-- where these are of the first job that each lies in
pub housed : (promises : List Promise) (jobs : List TraceJob) (slices : List TraceSlice)
    → pieces_at promises (map (job_of jobs) slices) slices ≡ pieces_of promises jobs slices
housed promises jobs [] = refl
housed promises jobs (s ∷ ss) =
    ap (λ (ps : List Piece). piece_of promises jobs s ∷ ps) (housed promises jobs ss)

-- near a job lie none of none
pub near_none : (rises : Bool) (time : ℕ) → near rises time [] ≡ []
near_none true time = refl
near_none false time = refl
