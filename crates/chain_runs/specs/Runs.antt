-- What the outputs of a chain are in a run of the kernel, by the words of chains.
use Rattle.std.specs.Prelude.{◌≡◌, ◌⊎◌, ℕ, ◌+◌, ◌-◌, ◌<◌, ◌≤◌, List, [], ◌∷◌, length, Option, Some, None, Ok}
use Rattle.ceiling_kernel.specs.Tick.{Node, Job, job_at}
use Rattle.ceiling_kernel.specs.Releases.{jobs_of}
use Rattle.ceiling_kernel.specs.Runs.{Runs}
use Rattle.ceiling_kernel.specs.declared.trace.Release.{Release}
use Rattle.ceiling_kernel.specs.declared.trace.Trace.{Trace}
use Rattle.ceiling_kernel.specs.Waits.{IsNode}
use Rattle.chains.specs.Starts.{IsWrittenAt}
use Rattle.chains.specs.Paths.{IsNewest, IsSampleOf, last_task}
use Rattle.chains.specs.Gaps.{AreSteady, OthersSteady}
use Rattle.chains.specs.Reactions.{ReactsBy}
use Rattle.chains.specs.Clocks.{KeepClock}
use Rattle.chains.specs.Bounds.{AllAct}
use Rattle.chains.specs.Walks.{bound_by}
use Rattle.chains.specs.Parts.{steps_of}
use Rattle.chains.specs.declared.bounds.Writes.{Writes}
use Rattle.chains.specs.declared.bounds.Writes.TheVariants.{AtFinish, AtDeadline}
use Rattle.chain_runs.specs.Outcomes.{ages_of, reactions_of}
use Rattle.chain_runs.specs.ChainOutputs.{outputs_of}
use Rattle.chain_runs.specs.declared.outputs.ChainOutput.{ChainOutput}

-- where tasks write at their deadlines, the set is valid: these are after 0, and within the period
abbrev pub WritesInTime : Writes → Node → Type 0
WritesInTime AtFinish node = Unit {0}
WritesInTime AtDeadline node = IsNode node

-- the sample of output k of a chain, or that it has none
abbrev pub IsSampled : Writes → Node → List Job → (first : ℕ) → (others : List ℕ) → (k : ℕ) → Option ℕ → Type 0
IsSampled writes node jobs first others k None =
    (s : ℕ) → IsSampleOf writes node jobs first others k s → ⊥
IsSampled writes node jobs first others k (Some s) = IsSampleOf writes node jobs first others k s

-- an output is job k of the chain's last task, with its sample, and the first that comes after a time
pub record IsOutput (writes : Writes) (node : Node) (jobs : List Job) (first : ℕ) (others : List ℕ)
    (after : ℕ) (o : ChainOutput) (k : ℕ) : Type 0 where
  pub is_job : k < length jobs
  pub own : (job_at jobs k).task ≡ last_task first others
  pub finished : IsWrittenAt writes node jobs k o.finish
  pub sampled : IsSampled writes node jobs first others k o.sample
  pub next : (q g : ℕ) → (job_at jobs q).task ≡ last_task first others
      → IsWrittenAt writes node jobs q g → after < g
      → o.finish ≤ g

-- The outputs that come after a time and until another, one after the other, are these: each is what a job of the chain's last
-- task writes, and no such job is left out.
abbrev pub AreOutputs : Writes → Node → List Job → (first : ℕ) → (others : List ℕ) → (after until : ℕ)
    → List ChainOutput → Type 0
AreOutputs writes node jobs first others after until [] =
    (q g : ℕ) → (job_at jobs q).task ≡ last_task first others → IsWrittenAt writes node jobs q g
    → g ≤ until
    → g ≤ after
AreOutputs writes node jobs first others after until (o ∷ os) =
    (after < o.finish) × (o.finish ≤ until)
    × ((k : ℕ) × IsOutput writes node jobs first others after o k)
    × AreOutputs writes node jobs first others o.finish until os

-- the outputs that are found of a chain in a run
abbrev pub OutputsAreTheRuns : Type 0
OutputsAreTheRuns =
    (writes : Writes) (node : Node) (rs : List Release) (until : ℕ) (trace : Trace) (first : ℕ)
    (others : List ℕ)
    → WritesInTime writes node → Runs node rs until (Ok trace)
    → AreOutputs writes node (jobs_of node.tasks rs) first others 0 until
    (outputs_of writes node.tasks until trace (first ∷ others))

-- ---- ages and reactions
-- what is found, where it is, is at most a time
abbrev pub AtMost : ℕ → Option ℕ → Type 0
AtMost most None = Unit {0}
AtMost most (Some found) = found ≤ most

-- whatever stands of a chain at a time of the run, is no older than the greatest age that is found
abbrev pub NoneIsOlder : Type 0
NoneIsOlder =
    (writes : Writes) (node : Node) (rs : List Release) (until : ℕ) (trace : Trace) (first : ℕ)
    (others : List ℕ)
    → WritesInTime writes node → Runs node rs until (Ok trace)
    → (t k s : ℕ) → t ≤ until
    → IsNewest writes node (jobs_of node.tasks rs) (last_task first others) t k
    → IsSampleOf writes node (jobs_of node.tasks rs) first others k s
    → (age : ℕ)
    × (ages_of until (outputs_of writes node.tasks until trace (first ∷ others)) ≡ Some age)
    × (t ≤ s + age)

-- an age of a chain's output in a run: the output stands at that time or just before
pub record IsAge (writes : Writes) (node : Node) (jobs : List Job) (first : ℕ) (others : List ℕ)
    (until age : ℕ)
    : Type 0 where
  pub output : ℕ
  pub sample : ℕ
  pub sampled : IsSampleOf writes node jobs first others output sample
  pub time : ℕ
  pub in_run : time ≤ until
  pub stands : IsNewest writes node jobs (last_task first others) time output
      ⊎ IsNewest writes node jobs (last_task first others) (time - 1) output
  pub is : sample + age ≡ time

-- the greatest age that is found is one
abbrev pub AgesAreReached : Type 0
AgesAreReached =
    (writes : Writes) (node : Node) (rs : List Release) (until : ℕ) (trace : Trace) (first : ℕ)
    (others : List ℕ) (age : ℕ)
    → WritesInTime writes node → Runs node rs until (Ok trace)
    → ages_of until (outputs_of writes node.tasks until trace (first ∷ others)) ≡ Some age
    → IsAge writes node (jobs_of node.tasks rs) first others until age

-- an event just after the sample of an output, where it is acted on in the run at all, is within the greatest reaction that is
-- found
abbrev pub NoneIsSlower : Type 0
NoneIsSlower =
    (writes : Writes) (node : Node) (rs : List Release) (until : ℕ) (trace : Trace) (first : ℕ)
    (others : List ℕ)
    → WritesInTime writes node → Runs node rs until (Ok trace)
    → (k f s : ℕ) → (job_at (jobs_of node.tasks rs) k).task ≡ last_task first others
    → IsWrittenAt writes node (jobs_of node.tasks rs) k f
    → IsSampleOf writes node (jobs_of node.tasks rs) first others k s
    → ReactsBy writes node (jobs_of node.tasks rs) first others (s + 1) until
    → (reaction : ℕ)
    × (reactions_of (outputs_of writes node.tasks until trace (first ∷ others)) ≡ Some reaction)
    × ReactsBy writes node (jobs_of node.tasks rs) first others (s + 1) (s + reaction)

-- a reaction to an event just after the sample of an output: it is acted on at that time in the run, and not before
pub record IsReaction (writes : Writes) (node : Node) (jobs : List Job) (first : ℕ) (others : List ℕ)
    (until reaction : ℕ)
    : Type 0 where
  pub output : ℕ
  pub own : (job_at jobs output).task ≡ last_task first others
  pub finish : ℕ
  pub finished : IsWrittenAt writes node jobs output finish
  pub sample : ℕ
  pub sampled : IsSampleOf writes node jobs first others output sample
  pub time : ℕ
  pub in_run : time ≤ until
  pub acted : ReactsBy writes node jobs first others (sample + 1) time
  pub soonest : (by : ℕ) → ReactsBy writes node jobs first others (sample + 1) by → time ≤ by
  pub is : sample + reaction ≡ time

-- the greatest reaction that is found is one
abbrev pub ReactionsAreReached : Type 0
ReactionsAreReached =
    (writes : Writes) (node : Node) (rs : List Release) (until : ℕ) (trace : Trace) (first : ℕ)
    (others : List ℕ) (reaction : ℕ)
    → WritesInTime writes node → Runs node rs until (Ok trace)
    → reactions_of (outputs_of writes node.tasks until trace (first ∷ others)) ≡ Some reaction
    → IsReaction writes node (jobs_of node.tasks rs) first others until reaction

-- in a run of which the laws of chains speak the greatest age and the greatest reaction are within the chain's bound; the clock
-- began so long before the run
abbrev pub RunsAreWithin : Type 0
RunsAreWithin =
    (writes : Writes) (offsets : List ℕ) (node : Node) (rs : List Release) (until shift : ℕ) (trace : Trace)
    (response : ℕ → ℕ) (first : ℕ) (others : List ℕ) (bound : ℕ)
    → IsNode node → Runs node rs until (Ok trace)
    → AllAct node (jobs_of node.tasks rs) response first others
    → AreSteady node (jobs_of node.tasks rs) until first
    → OthersSteady node (jobs_of node.tasks rs) until first others
    → KeepClock node (jobs_of node.tasks rs) shift offsets (first ∷ others)
    → bound_by (steps_of writes offsets node response (first ∷ others)) ≡ Some bound
    → AtMost bound (ages_of until (outputs_of writes node.tasks until trace (first ∷ others)))
    × AtMost bound (reactions_of (outputs_of writes node.tasks until trace (first ∷ others)))
