-- The jobs of a way, by the words of chains.
use Rattle.std.specs.Prelude.{◌≡◌, ℕ, ◌≤◌, List, [], ◌∷◌, reverse, Option, Some, None, Ok}
use Rattle.ceiling_kernel.specs.Tick.{Node, Job}
use Rattle.ceiling_kernel.specs.Releases.{jobs_of}
use Rattle.ceiling_kernel.specs.Runs.{Runs}
use Rattle.ceiling_kernel.specs.declared.trace.Release.{Release}
use Rattle.ceiling_kernel.specs.declared.trace.Trace.{Trace}
use Rattle.chains.specs.Paths.{IsNewest}
use Rattle.chains.specs.Starts.{IsReadAt, IsWrittenAt}
use Rattle.chains.specs.declared.bounds.Writes.{Writes}
use Rattle.chain_runs.specs.ChainOutputs.{outputs_of}
use Rattle.chain_runs.specs.Runs.{WritesInTime}
use Rattle.drawn_ways.specs.Legs.{path_at}
use Rattle.drawn_ways.specs.declared.legs.Leg.{Leg}

-- a job of a task whose output stands at a time, from when it reads to when it writes
pub record IsJobOf (writes : Writes) (node : Node) (jobs : List Job) (task t : ℕ) (l : Leg) (p : ℕ)
    : Type 0 where
  pub own : l.task ≡ task
  pub newest : IsNewest writes node jobs task t p
  pub started : IsReadAt writes node jobs p l.start
  pub finished : IsWrittenAt writes node jobs p l.stop

-- what is found of a task at a time is that job; nothing is found where none has written
abbrev pub IsFound : Writes → Node → List Job → (task t : ℕ) → Option Leg → Type 0
IsFound writes node jobs task t None = (p : ℕ) → IsNewest writes node jobs task t p → ⊥
IsFound writes node jobs task t (Some l) = (p : ℕ) × IsJobOf writes node jobs task t l p

-- Jobs of tasks, the last one first, of which each reads what the next one wrote: of that one's task it is the newest when the
-- reader reads. They end with the first task, or where a job read nothing.
abbrev pub AreRead : Writes → Node → List Job → (tasks : List ℕ) → (t : ℕ) → List Leg → Type 0
AreRead writes node jobs [] t ls = ls ≡ []
AreRead writes node jobs (task ∷ before) t [] = IsFound writes node jobs task t None
AreRead writes node jobs (task ∷ before) t (l ∷ ls) =
    IsFound writes node jobs task t (Some l) × AreRead writes node jobs before l.start ls

-- the jobs that are found of the path of what stands at a time of a run
abbrev pub PathsAreRead : Type 0
PathsAreRead =
    (writes : Writes) (node : Node) (rs : List Release) (until : ℕ) (trace : Trace) (tasks : List ℕ)
    (t : ℕ)
    → WritesInTime writes node → Runs node rs until (Ok trace) → t ≤ until
    → AreRead writes node (jobs_of node.tasks rs) (reverse tasks) t
    (path_at (outputs_of writes node.tasks until trace) tasks t)
