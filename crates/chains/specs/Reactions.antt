-- How long until a chain acts on an event.
use Rattle.std.specs.Prelude.{◌≡◌, ℕ, ◌+◌, ◌<◌, ◌≤◌, List, [], ◌∷◌, length, Some}
use Rattle.ceiling_kernel.specs.Tick.{Node, Job, job_at}
use Rattle.chains.specs.Paths.{last_task, IsSampleOf}
use Rattle.chains.specs.Gaps.{AreSteady, OthersSteady}
use Rattle.chains.specs.Clocks.{KeepClock}
use Rattle.chains.specs.Bounds.{AllAct, delay_of}
use Rattle.chains.specs.Walks.{bound_by}
use Rattle.chains.specs.Parts.{steps_of}
use Rattle.chains.specs.Starts.{IsReadAt, IsWrittenAt}
use Rattle.chains.specs.declared.bounds.Writes.{Writes}

-- a job of task i arrives by z
abbrev pub HasBegun : List Job → (z i : ℕ) → Type 0
HasBegun jobs z i =
    (j : ℕ) × (j < length jobs) × ((job_at jobs j).task ≡ i) × ((job_at jobs j).arrival ≤ z)

-- of each task of a chain but the first one does
abbrev pub OthersBegun : List Job → (z first : ℕ) → (others : List ℕ) → Type 0
OthersBegun jobs z i [] = Unit {0}
OthersBegun jobs z i (c ∷ others) = HasBegun jobs z c × OthersBegun jobs z c others

-- an output that is finished by a time, and has its sample at z or later
pub record ReactsBy (writes : Writes) (node : Node) (jobs : List Job) (first : ℕ) (others : List ℕ) (z by : ℕ)
    : Type 0 where
  pub output : ℕ
  pub own : (job_at jobs output).task ≡ last_task first others
  pub finish : ℕ
  pub finished : IsWrittenAt writes node jobs output finish
  pub in_time : finish ≤ by
  pub sample : ℕ
  pub sampled : IsSampleOf writes node jobs first others output sample
  pub later : z ≤ sample

-- once all tasks of a chain have begun, an event is acted on within the bound, until the end of the run
abbrev pub ReactionsHold : Writes → Node → List Job → Type 0
ReactionsHold writes node jobs =
    (until shift : ℕ) (response : ℕ → ℕ) (offsets : List ℕ) (first : ℕ) (others : List ℕ) (bound : ℕ)
    → AllAct node jobs response first others
    → AreSteady node jobs until first → OthersSteady node jobs until first others
    → KeepClock node jobs shift offsets (first ∷ others)
    → bound_by (steps_of writes offsets node response (first ∷ others)) ≡ Some bound
    → (z : ℕ) → HasBegun jobs z first → OthersBegun jobs z first others
    → z + bound ≤ until → ReactsBy writes node jobs first others z (z + bound)

-- what job q of the first task samples, or a later sample, is acted on within the bound less the first gap, counted from the
-- arrival of the job: the first task may be sporadic
abbrev pub SamplesAreActedOn : Writes → Node → List Job → Type 0
SamplesAreActedOn writes node jobs =
    (until : ℕ) (response : ℕ → ℕ) (first : ℕ) (others : List ℕ)
    → AllAct node jobs response first others → OthersSteady node jobs until first others
    → (q s : ℕ) → (job_at jobs q).task ≡ first → IsReadAt writes node jobs q s
    → OthersBegun jobs (job_at jobs q).arrival first others
    → (job_at jobs q).arrival + delay_of writes node response first others ≤ until
    → ReactsBy writes node jobs first others s
    ((job_at jobs q).arrival + delay_of writes node response first others)
