-- What `desk releases` answers and prints.
use Rattle.std.specs.Prelude.{◌≡◌, ◌⊎◌, ℕ, List, [], ◌∷◌, ◌++◌, drop, None, Option, Some, Result, Ok, Err}
use Rattle.std.specs.Global.{Vec}
use Rattle.preferences.specs.declared.asking.Asking.{Asking}
use Rattle.task_sheet.specs.Sheet.{Task}
use Rattle.ceiling_kernel.specs.Releases.{IsRefusal, refusal_of}
use Rattle.ceiling_kernel.specs.declared.trace.Release.{Release}
use Rattle.ceiling_kernel.specs.declared.trace.RunFault.{RunFault}
use Rattle.release_list.specs.Densest.{densest_of, list_refusal}
use Rattle.release_list.specs.Random.{random_of, random_refusal}
use Rattle.release_list.specs.Text.{list_lines}
use Rattle.release_list.specs.declared.steady.SteadyTask.{SteadyTask}
use Rattle.chains.specs.Walks.{first_known}
use Rattle.chain_tables.specs.Chains.{ChainData}
use Rattle.answering.specs.Owning.{HasChained}
use Rattle.answering.specs.Printed.{Prints}
use Rattle.answering.specs.Sets.{HasNoSet, HasSet}
use Rattle.answering.specs.declared.refusal.CommandRefusal.{CommandRefusal}
use Rattle.answering.specs.declared.refusal.CommandRefusal.TheVariants as refusal
use Rattle.answering.specs.declared.status.Status.{Status}
use Rattle.answering.specs.declared.status.Status.TheVariants as status

-- tasks of a chain with their offsets, where these are known
abbrev pub steady_tasks : (offsets tasks : List ℕ) → List SteadyTask
steady_tasks offsets [] = []
steady_tasks offsets (task ∷ tasks) =
    record { task = task; offset = first_known offsets } ∷ steady_tasks (drop 1 offsets) tasks

-- those of chains
abbrev pub chained_tasks : List ChainData → List SteadyTask
chained_tasks [] = []
chained_tasks (c ∷ chains) = steady_tasks c.offsets c.tasks ++ chained_tasks chains

-- a set's list up to an end, in which these chains' tasks arrive from their offsets on, where these are known: the random one of
-- a seed, in which jobs of theirs come exactly a period apart; or else the densest, in which all do
abbrev pub list_of : Option ℕ → List Task → List ChainData → ℕ → List Release
list_of None U chains until = densest_of U (chained_tasks chains) until
list_of (Some seed) U chains until = random_of U (chained_tasks chains) until seed

-- why there is none
abbrev pub refusal_by : Option ℕ → List Task → List ChainData → ℕ → Option RunFault
refusal_by None U chains until = list_refusal U (chained_tasks chains) until
refusal_by (Some seed) U chains until = random_refusal U (chained_tasks chains) until seed

-- the answer on a set and its chains: its list, which no kernel of the set refuses, or why there is none
abbrev pub ListsOf :
    Option ℕ → ℕ → List Task → List ChainData → Result (Vec Release) CommandRefusal → Type 0
ListsOf seed until U chains (Ok releases) =
    (refusal_by seed U chains until ≡ None) × (releases.items ≡ list_of seed U chains until)
    × (refusal_of U releases.items until ≡ None)
ListsOf seed until U chains (Err (refusal.Run fault)) = IsRefusal fault (refusal_by seed U chains until)
ListsOf seed until U chains _ = ⊥

-- the answer on what a reader has
abbrev pub Lists :
    Asking → Option ℕ → ℕ → Option (List ℕ) → Result (Vec Release) CommandRefusal → Type 0
Lists asking seed until known (Ok releases) =
    (U : List Task) × (chains : List ChainData) × HasSet asking known U × HasChained known U chains
    × ListsOf seed until U chains (Ok releases)
Lists asking seed until known (Err r) =
    HasNoSet asking known r
    ⊎ ((U : List Task) × (chains : List ChainData) × HasSet asking known U × HasChained known U chains
    × ListsOf seed until U chains (Err r))

-- the answer on what the reader had is printed after what the writer held, and the status is the answer's
abbrev pub SaysList :
    Asking → Option ℕ → ℕ → Option (List ℕ) → (before after : Option (List ℕ)) → Status
    → Type 0
SaysList asking seed until known before after s =
    Prints (Lists asking seed until known) (λ releases. list_lines until releases.items)
    (λ _. status.Done) before after s
