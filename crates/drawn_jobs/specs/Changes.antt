-- Which jobs of a run have another response than in a run before, and how they are marked.
use Rattle.std.specs.Prelude.{ℕ, zero, suc, ◌+◌, ◌-◌, Bool, true, false, not, ◌&&◌, ◌==◌, nat_le, if◌then◌else◌, Option, Some, None, List, [], ◌∷◌, ◌++◌, length, codes, slice_get}
use Rattle.std.specs.Fmt.{decimal}
use Rattle.std.specs.List.{concat}
use Rattle.task_sheet.specs.Sheet.{same_bytes}
use Rattle.ceiling_kernel.specs.declared.trace.JobRecord.{JobRecord}
use Rattle.frames.specs.declared.rows.TaskRow.{TaskRow}
use Rattle.frames.specs.Frame.{Frame, ended, is_in, top_of, x_of}
use Rattle.frames.specs.PictureRows.{each, on_spot, record_at}

-- two jobs are of the same release: of one task, with one arrival
abbrev pub same_release : (old job : JobRecord) → Bool
same_release old job = same_bytes old.name job.name && (old.release == job.release)

-- both are done at one time, or neither is done
abbrev pub same_finish : Option ℕ → Option ℕ → Bool
same_finish None None = true
same_finish (Some finish) (Some other) = finish == other
same_finish _ _ = false

-- when a job is done, as far as it is known by an end
abbrev pub done_by : (end : ℕ) → (finish : Option ℕ) → Option ℕ
done_by end None = None
done_by end (Some finish) = if nat_le finish end then Some finish else None

-- the response of a job is another than before, as far as it is known by the end of both runs
abbrev pub is_changed : (end : ℕ) → (old job : JobRecord) → Bool
is_changed end old job =
    same_release old job && not (same_finish (done_by end old.finish) (done_by end job.finish))

-- the same of a job beside the job before, if there is one
abbrev pub has_changed : (end : ℕ) → (job : JobRecord) → (old : Option JobRecord) → Bool
has_changed end job None = false
has_changed end job (Some old) = is_changed end old job

-- a count, and one more where something is so
abbrev pub counted_with : (is : Bool) → (count : ℕ) → ℕ
counted_with is count = if is then count + 1 else count

-- of the first n jobs so many responses are another than before; the job of the same release has the same number there
unfoldable pub changed_before : (end : ℕ) → (old jobs : List JobRecord) → (n : ℕ) → ℕ
changed_before end old jobs zero = 0
changed_before end old jobs (suc n) =
    counted_with (has_changed end (record_at jobs n) (slice_get old n)) (changed_before end old jobs n)

-- the same of all jobs
abbrev pub all_changed : (end : ℕ) → (old jobs : List JobRecord) → ℕ
all_changed end old jobs = changed_before end old jobs (length jobs)

-- how long after its arrival a job is done
abbrev pub response_text : (arrival : ℕ) → (finish : Option ℕ) → List ℕ
response_text arrival None = codes "not done"
response_text arrival (Some finish) = decimal (finish - arrival) ++ codes " us"

-- what stands before that
abbrev pub response_word : (finish : Option ℕ) → List ℕ
response_word None = codes ": "
response_word (Some finish) = codes ": response "

-- a sign below the end of its response, and what that was before
abbrev pub change_sign : Frame → (k : ℕ) → (old job : JobRecord) → List ℕ
change_sign f k old job =
    concat (codes "<path class=\"ch\" d=\"M" ∷ decimal (x_of f (ended f job)) ∷ codes " "
    ∷ decimal (top_of k + 360) ∷ codes "l-45 80h90z\"><title>" ∷ job.name ∷ response_word job.finish
    ∷ response_text job.release job.finish ∷ codes ", before "
    ∷ response_text old.release old.finish ∷ codes "</title></path>\n" ∷ [])

-- the same where it is another, and its end is in the window
abbrev pub change_of : Frame → (end : ℕ) → (k : ℕ) → (job old : JobRecord) → List ℕ
change_of f end k job old =
    if is_changed end old job && is_in f (ended f job) then change_sign f k old job else []

-- beside the job before, if there is one
abbrev pub change_text : Frame → (end : ℕ) → (k : ℕ) → (job : JobRecord) → (old : Option JobRecord) → List ℕ
change_text f end k job None = []
change_text f end k job (Some old) = change_of f end k job old

-- that of job i, beside the one of the same number before
abbrev pub change_at : Frame → (end : ℕ) → List TaskRow → (shown : List ℕ) → (old jobs : List JobRecord) → (i : ℕ) → List ℕ
change_at f end rows shown old jobs i =
    on_spot rows shown (record_at jobs i).name
    (λ s row. change_text f end s.k (record_at jobs i) (slice_get old i))

-- those of all jobs
abbrev pub changes_text : Frame → (end : ℕ) → List TaskRow → (shown : List ℕ) → (old jobs : List JobRecord) → List ℕ
changes_text f end rows shown old jobs = each (length jobs) (change_at f end rows shown old jobs)
