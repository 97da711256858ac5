-- The way of what a chain's last task wrote: back from job to job, each of which read what the one before it wrote.
use Rattle.std.specs.Prelude.{ℕ, nat_le, if◌then◌else◌, List, [], ◌∷◌, reverse, Option, Some, None}
use Rattle.std.specs.Option.{option_map}
use Rattle.chain_runs.specs.declared.outputs.ChainOutput.{ChainOutput}
use Rattle.drawn_ways.specs.declared.legs.Leg.{Leg}

-- ---- a task: what its jobs write is what comes of a chain of it alone, of which each samples as it reads
abbrev pub leg_of : (task : ℕ) → ChainOutput → Option Leg
leg_of task o = option_map (λ start. record { task = task; start = start; stop = o.finish }) o.sample

-- of some that have written by a time, the last, or one that was found before
abbrev pub newest_leg : (task time : ℕ) → List ChainOutput → Option Leg → Option Leg
newest_leg task time [] found = found
newest_leg task time (o ∷ os) found =
    newest_leg task time os (if nat_le o.finish time then leg_of task o else found)

-- of all, by what comes of chains
abbrev pub newest_of : (outputs : List ℕ → List ChainOutput) → (task time : ℕ) → Option Leg
newest_of outputs task time = newest_leg task time (outputs (task ∷ [])) None

-- ---- a chain
-- a job, and those of the path of what stood when it read
abbrev pub with_before : (ℕ → List Leg) → Option Leg → List Leg
with_before legs None = []
with_before legs (Some leg) = leg ∷ legs leg.start

-- the jobs of a path, the last one first, back from the job of a task that is the newest at a time, if there is one: each task
-- is followed by the one before it in the chain
abbrev pub back : (outputs : List ℕ → List ChainOutput) → (tasks : List ℕ) → (time : ℕ) → List Leg
back outputs [] time = []
back outputs (task ∷ before) time = with_before (back outputs before) (newest_of outputs task time)

-- the path of what stands at a time behind a chain
abbrev pub path_at : (outputs : List ℕ → List ChainOutput) → (tasks : List ℕ) → (time : ℕ) → List Leg
path_at outputs tasks time = back outputs (reverse tasks) time
