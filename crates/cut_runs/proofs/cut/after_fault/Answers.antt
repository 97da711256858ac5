use Rattle.std.proofs.Common.{Err, List, subst}
use Rattle.ceiling_kernel.specs.Runs.{Runs}
use Rattle.ceiling_kernel.specs.declared.trace.Release.{Release}
use Rattle.ceiling_kernel.specs.declared.trace.RunFault.{RunFault}
use Rattle.ceiling_kernel.specs.declared.trace.RunFault.TheVariants.{Overrun}
use Rattle.cut_runs.specs.Cut.{RunsCut}
use Rattle.cut_runs.proofs.cut.after_fault.Goals as goal

pub returns-in-Overrun-clause-run : goal.returns-in-Overrun-clause-run
returns-in-Overrun-clause-run c =
    let K = c.args.kernel.now in
    let rs = c.args.releases.items in
    let stop : RunFault = Overrun c.in-Overrun.name c.in-Overrun.time in
    λ until stops. subst (λ (x : List Release). Runs K x until (Err stop)
    → RunsCut K x until c.run_left.result) c.deref.ensures.value (c.run_left.ensures.run until)
    (subst (λ (f : RunFault). Runs K rs until (Err f)) c.in-Overrun.is stops)

pub returns-in-Unsorted-clause-run : goal.returns-in-Unsorted-clause-run
returns-in-Unsorted-clause-run c = λ until stops. (stops, rw c.in-Unsorted.is tt)

pub returns-in-UnknownTask-clause-run : goal.returns-in-UnknownTask-clause-run
returns-in-UnknownTask-clause-run c = λ until stops. (stops, rw c.in-UnknownTask.is tt)

pub returns-in-TooSoon-clause-run : goal.returns-in-TooSoon-clause-run
returns-in-TooSoon-clause-run c = λ until stops. (stops, rw c.in-TooSoon.is tt)

pub returns-in-TooLate-clause-run : goal.returns-in-TooLate-clause-run
returns-in-TooLate-clause-run c = λ until stops. (stops, rw c.in-TooLate.is tt)

pub returns-in-OutsideCost-clause-run : goal.returns-in-OutsideCost-clause-run
returns-in-OutsideCost-clause-run c = λ until stops. (stops, rw c.in-OutsideCost.is tt)

pub returns-in-PastHorizon-clause-run : goal.returns-in-PastHorizon-clause-run
returns-in-PastHorizon-clause-run c = λ until stops. (stops, rw c.in-PastHorizon.is tt)

pub returns-in-TooMany-clause-run : goal.returns-in-TooMany-clause-run
returns-in-TooMany-clause-run c = λ until stops. (stops, rw c.in-TooMany.is tt)
