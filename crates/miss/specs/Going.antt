-- How far a run in which a job misses its deadline goes on.
use Rattle.std.specs.Prelude.{◌≡◌, ◌⊎◌, ℕ, List, Option, None, Ok, Err, slice_get}
use Rattle.std.specs.Option.{option_and_then, unwrap_or}
use Rattle.ceiling_kernel.specs.declared.accept.TheConstants.{HORIZON}
use Rattle.ceiling_kernel.specs.declared.trace.JobRecord.{JobRecord}
use Rattle.ceiling_kernel.specs.declared.trace.RunFault.{RunFault}
use Rattle.ceiling_kernel.specs.declared.trace.RunFault.TheVariants as fault
use Rattle.ceiling_kernel.specs.declared.trace.Trace.{Trace}
use Rattle.ceiling_kernel.specs.Runs.{Runs}
use Rattle.ceiling_kernel.specs.Tick.{Node}
use Rattle.miss.specs.declared.shown.Miss.{Miss}

-- when the job at a place is done, if there is one, and it is
abbrev pub finish_of : List JobRecord → ℕ → Option ℕ
finish_of jobs place = option_and_then (λ (job : JobRecord). job.finish) (slice_get jobs place)

-- when the job of a miss is done in a run of the same releases up to the horizon, if it is, and if a kernel takes that
abbrev pub IsDoneLater : Node → Miss → Option ℕ → Type 0
IsDoneLater node m finish =
    ((trace : Trace) × Runs node m.releases.items HORIZON (Ok trace)
    × (finish ≡ finish_of trace.jobs.items m.job))
    ⊎ ((f : RunFault) × (f ≡ fault.OutOfMemory → ⊥) × Runs node m.releases.items HORIZON (Err f)
    × (finish ≡ None))

-- the run of a miss goes on until its job is done; where that isn't known it ends at the deadline
abbrev pub GoesOnUntil : Node → Miss → ℕ → Type 0
GoesOnUntil node m end =
    (finish : Option ℕ) × IsDoneLater node m finish × (end ≡ unwrap_or finish m.until)
