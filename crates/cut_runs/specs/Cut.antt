-- How much of a run is shown in which a job overruns the one before it: all up to when the first such job becomes ready.
use Rattle.std.specs.Prelude.{◌≡◌, ℕ, nat_lt, List, Option, Some, None, Result, Ok, Err}
use Rattle.std.specs.List.{filter}
use Rattle.ceiling_kernel.specs.Tick.{Node}
use Rattle.ceiling_kernel.specs.Releases.{jobs_of, ready_of, refusal_of}
use Rattle.ceiling_kernel.specs.Runs.{IsNoOverrun, MeetsTighterBounds, Runs}
use Rattle.ceiling_kernel.specs.Waits.{NoOverrun}
use Rattle.ceiling_kernel.specs.declared.trace.Release.{Release}
use Rattle.ceiling_kernel.specs.declared.trace.RunFault.{RunFault}
use Rattle.ceiling_kernel.specs.declared.trace.RunFault.TheVariants as fault
use Rattle.cut_runs.specs.declared.cut.CutRun.{CutRun}

-- the releases that are ready before a time
abbrev pub ready_before : ℕ → List Release → List Release
ready_before time rs = filter (λ r. nat_lt (ready_of r) time) rs

-- what is shown of a list, and up to when: all of it, to its end; or, where a job of the named task is the first that overruns
-- the one before it, what is ready before that one, up to when it is
abbrev pub IsShownOf : Node → List Release → (until : ℕ) → Option (List ℕ) → (shown : List Release)
    → (end : ℕ) → Type 0
IsShownOf node rs until None shown end = (shown ≡ rs) × (end ≡ until)
IsShownOf node rs until (Some name) shown end =
    Runs node rs until (Err (fault.Overrun name end)) × (shown ≡ ready_before end rs)

-- that is run
pub record IsCutRun (node : Node) (rs : List Release) (until : ℕ) (run : CutRun) : Type 0 where
  pub shown : IsShownOf node rs until run.overrun run.releases.items run.until
  pub ran : Runs node run.releases.items run.until (Ok run.trace)

-- what comes of a list: a run, which may be cut; else why it is refused before anything runs
abbrev pub RunsCut : Node → List Release → ℕ → Result CutRun RunFault → Type 0
RunsCut node rs until (Ok run) = IsCutRun node rs until run
RunsCut node rs until (Err fault) = Runs node rs until (Err fault) × IsNoOverrun fault

-- what the analysis says of it: each job is done a tick of what blocks it before its bound
abbrev pub IsTight : Node → CutRun → Type 0
IsTight node run = MeetsTighterBounds node run.releases.items run.until run.trace

-- WHAT IS LEFT IS RUN: it isn't refused, and no job of it overruns the one before it
abbrev pub CutsAreRun : Node → List Release → ℕ → Type 0
CutsAreRun node rs until =
    (name : List ℕ) (time : ℕ) → Runs node rs until (Err (fault.Overrun name time))
    → (refusal_of node.tasks (ready_before time rs) time ≡ None)
    × NoOverrun node (jobs_of node.tasks (ready_before time rs))
