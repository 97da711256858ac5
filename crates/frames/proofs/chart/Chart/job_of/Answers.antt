use Rattle.std.proofs.Common.{◌≤◌, ◌<◌, length, arith, refl}
use Rattle.std.proofs.lemmas.Option.{slice_get-get_or, slice_get_past}
use Rattle.ceiling_kernel.specs.Runs.{no_record}
use Rattle.frames.proofs.chart.Chart.job_of.Goals as goal

pub returns-then-slice-self : goal.returns-then-slice-self
returns-then-slice-self c =
    let jobs = c.args.self.now.jobs.now in
    let past : length jobs ≤ c.args.slice.job = omega arith in
    rw (slice_get_past jobs c.args.slice.job past) refl

pub returns : goal.returns
returns c =
    let jobs = c.args.self.now.jobs.now in
    let lt : c.args.slice.job < length jobs = omega arith in
    rw (slice_get-get_or jobs c.args.slice.job no_record lt, ← c.job_at.ensures) refl
