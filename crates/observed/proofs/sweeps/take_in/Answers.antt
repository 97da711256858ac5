use Rattle.std.proofs.Common.{◌∙◌, ℕ, List, [], ◌∷◌, ◌++◌, ap}
use Rattle.std.specs.List.{filter}
use Rattle.trace_text.specs.declared.rows.TraceJob.{TraceJob}
use Rattle.observed.specs.Sweeps.{goes_on, stand_from}
use Rattle.observed.specs.declared.sweeps.Standing.{Standing}
use Rattle.observed.proofs.SweepLaws.{swept_more}
use Rattle.observed.proofs.sweeps.take_in.Goals as goal

pub loop-place-preserved : goal.loop-place-preserved
loop-place-preserved c =
    let time = c.args.time in
    let place : ℕ = c.loop-place.place in
    let live : List Standing = c.loop-place.live.items in
    let job : TraceJob = c.index-jobs-place-in-loop-place.result in
    swept_more c.args.jobs.now time live c.take_one.new.live.items place job c.loop-place.invariant
    c.loop-place-test.true
    (c.in_ok-take_one.ensures
    ∙ ap (λ (j : TraceJob). live ++ filter (goes_on time) (stand_from place (j ∷ [])))
    c.index-jobs-place-in-loop-place.is)
