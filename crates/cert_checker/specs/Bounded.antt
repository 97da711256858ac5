-- What the numbers of a certificate's chains bound.
use Rattle.std.specs.Prelude.{◌≡◌, ◌≢◌, ℕ, ◌+◌, ◌<◌, ◌≤◌, List, [], ◌∷◌, length}
use Rattle.task_sheet.specs.Sheet.{Task}
use Rattle.task_sheet.specs.Verdicts.{LevelData}
use Rattle.ceiling_kernel.specs.Tick.{Node, Job, job_at}
use Rattle.ceiling_kernel.specs.Waits.{AreLegalJobs}
use Rattle.chains.specs.Paths.{IsNewest, last_task, IsSampleOf}
use Rattle.chains.specs.Clocks.{KeepClock}
use Rattle.chains.specs.Gaps.{AreSteady, OthersSteady}
use Rattle.chains.specs.Reactions.{HasBegun, OthersBegun, ReactsBy}
use Rattle.chains.specs.declared.bounds.Writes.{Writes}
use Rattle.chain_tables.specs.Chains.{ChainData}
use Rattle.certificate.specs.declared.value.CertChain.{CertChain}
use Rattle.cert_checker.specs.Ages.{node_of}

-- whenever an output stands that has a path, its sample is younger than this, until the end of the run
abbrev pub IsAgeBound : Writes → Node → List Job → (until first : ℕ) → (others : List ℕ) → (number : ℕ)
    → Type 0
IsAgeBound writes node jobs until first others number =
    (t k s : ℕ) → t ≤ until → IsNewest writes node jobs (last_task first others) t k
    → IsSampleOf writes node jobs first others k s
    → t < s + number

-- once all tasks of a chain have begun, an event is acted on within this, until the end of the run
abbrev pub IsReactionBound : Writes → Node → List Job → (until first : ℕ) → (others : List ℕ)
    → (number : ℕ) → Type 0
IsReactionBound writes node jobs until first others number =
    (z : ℕ) → HasBegun jobs z first → OthersBegun jobs z first others → z + number ≤ until
    → ReactsBy writes node jobs first others z (z + number)

-- the task is one of the set, and each of its jobs executes something: so it reads and writes
pub record Works (U : List Task) (jobs : List Job) (i : ℕ) : Type 0 where
  pub within : i < length U
  pub works : (j : ℕ) → j < length jobs → (job_at jobs j).task ≡ i → 0 < (job_at jobs j).executes

-- each task of a chain does, and is another one than the next
abbrev pub AllWork : List Task → List Job → (first : ℕ) → (others : List ℕ) → Type 0
AllWork U jobs i [] = Works U jobs i
AllWork U jobs i (c ∷ others) = Works U jobs i × (i ≢ c) × AllWork U jobs c others

-- In each run in which the chain's tasks act, are steady and arrive at their offsets, where these are known, the number bounds
-- each age and each reaction, whatever the jobs do within their tasks' sheets.
abbrev pub HoldsInRuns : Writes → (offsets : List ℕ) → Node → (first : ℕ) → (others : List ℕ) → (number : ℕ)
    → Type 0
HoldsInRuns writes offsets node first others number =
    (jobs : List Job) (until shift : ℕ) → AreLegalJobs node jobs → AllWork node.tasks jobs first others
    → AreSteady node jobs until first → OthersSteady node jobs until first others
    → KeepClock node jobs shift offsets (first ∷ others)
    → IsAgeBound writes node jobs until first others number
    × IsReactionBound writes node jobs until first others number

-- so for a chain's tasks in the order of the levels
abbrev pub IsBounded : Writes → (offsets : List ℕ) → List Task → List LevelData → (tasks : List ℕ) → (number : ℕ)
    → Type 0
IsBounded writes offsets U levels [] number = Unit {0}
IsBounded writes offsets U levels (first ∷ others) number =
    HoldsInRuns writes offsets (node_of U levels) first others number

-- what is said of each chain bounds it
abbrev pub AreBounded : List Task → List LevelData → List ChainData → (said : List CertChain) → Type 0
AreBounded U levels [] said = Unit {0}
AreBounded U levels (c ∷ chains) [] = ⊥
AreBounded U levels (c ∷ chains) (s ∷ said) =
    IsBounded c.writes c.offsets U levels c.tasks s.number × AreBounded U levels chains said
