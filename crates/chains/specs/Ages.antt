-- How old what the last task of a chain wrote may be (immediate backward job chains of sporadic tasks).
use Rattle.std.specs.Prelude.{◌≡◌, ℕ, ◌+◌, ◌<◌, ◌≤◌, List, ◌∷◌, length, Some}
use Rattle.ceiling_kernel.specs.Tick.{Node, Job, job_at}
use Rattle.chains.specs.Paths.{IsNewest, last_task, IsSampleOf}
use Rattle.chains.specs.Gaps.{AreSteady, OthersSteady, SendersSteady}
use Rattle.chains.specs.Clocks.{KeepClock}
use Rattle.chains.specs.Bounds.{AllAct, lag_of}
use Rattle.chains.specs.Walks.{bound_by}
use Rattle.chains.specs.Parts.{steps_of}
use Rattle.chains.specs.Starts.{IsWrittenAt}
use Rattle.chains.specs.declared.bounds.Writes.{Writes}

-- whenever an output stands that has a path, its sample is younger than the bound, until the end of the run: so up to the
-- instant of the next one it is no older. Where the tasks' offsets are known, they arrive on one clock.
abbrev pub AgesHold : Writes → Node → List Job → Type 0
AgesHold writes node jobs =
    (until shift : ℕ) (response : ℕ → ℕ) (offsets : List ℕ) (first : ℕ) (others : List ℕ) (bound : ℕ)
    → AllAct node jobs response first others
    → AreSteady node jobs until first → OthersSteady node jobs until first others
    → KeepClock node jobs shift offsets (first ∷ others)
    → bound_by (steps_of writes offsets node response (first ∷ others)) ≡ Some bound
    → (t k s : ℕ) → t ≤ until → IsNewest writes node jobs (last_task first others) t k
    → IsSampleOf writes node jobs first others k s
    → t < s + bound

-- when an output comes, it is no older than the bound less the last gap: its last task may be sporadic
abbrev pub OutputsAreFresh : Writes → Node → List Job → Type 0
OutputsAreFresh writes node jobs =
    (until : ℕ) (response : ℕ → ℕ) (first : ℕ) (others : List ℕ)
    → AllAct node jobs response first others → SendersSteady node jobs until first others
    → (k f s : ℕ) → f ≤ until → k < length jobs → (job_at jobs k).task ≡ last_task first others
    → IsWrittenAt writes node jobs k f → IsSampleOf writes node jobs first others k s
    → f ≤ s + lag_of writes node response first others

-- of two outputs, the one that comes no earlier has no older sample
abbrev pub SamplesNeverGoBack : Writes → Node → List Job → Type 0
SamplesNeverGoBack writes node jobs =
    (response : ℕ → ℕ) (first : ℕ) (others : List ℕ) → AllAct node jobs response first others
    → (k l f g s u : ℕ) → k < length jobs → (job_at jobs k).task ≡ last_task first others
    → l < length jobs → (job_at jobs l).task ≡ last_task first others
    → IsWrittenAt writes node jobs k f → IsWrittenAt writes node jobs l g → f ≤ g
    → IsSampleOf writes node jobs first others k s → IsSampleOf writes node jobs first others l u
    → s ≤ u

-- As long as an output stands, none has come of a later sample: so from just after its sample to the next output that has one
-- is both an age and a reaction.
abbrev pub AgesAreReactions : Writes → Node → List Job → Type 0
AgesAreReactions writes node jobs =
    (response : ℕ → ℕ) (first : ℕ) (others : List ℕ) → AllAct node jobs response first others
    → (t k s : ℕ) → IsNewest writes node jobs (last_task first others) t k
    → IsSampleOf writes node jobs first others k s
    → (m h w : ℕ) → m < length jobs → (job_at jobs m).task ≡ last_task first others
    → IsWrittenAt writes node jobs m h → IsSampleOf writes node jobs first others m w → s < w
    → t < h

-- once an output has a path, each that comes no earlier has one
abbrev pub PathsGoOn : Writes → Node → List Job → Type 0
PathsGoOn writes node jobs =
    (response : ℕ → ℕ) (first : ℕ) (others : List ℕ) → AllAct node jobs response first others
    → (k l f g s : ℕ) → k < length jobs → (job_at jobs k).task ≡ last_task first others
    → l < length jobs → (job_at jobs l).task ≡ last_task first others
    → IsWrittenAt writes node jobs k f → IsWrittenAt writes node jobs l g → f ≤ g
    → IsSampleOf writes node jobs first others k s
    → (u : ℕ) × IsSampleOf writes node jobs first others l u
