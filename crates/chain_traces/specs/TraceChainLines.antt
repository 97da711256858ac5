-- The lines of a set's chains in a trace.
use Rattle.std.specs.Prelude.{◌≡◌, ℕ, Bool, false, not, ◌&&◌, List, [], ◌∷◌, ◌++◌, codes, map, string_bytes, Option, Some, None, if◌then◌else◌}
use Rattle.std.specs.Fmt.{decimal}
use Rattle.std.specs.List.{list_all, list_any}
use Rattle.task_sheet.specs.Sheet.{Task}
use Rattle.trace_text.specs.declared.reading.TraceLines.{TraceLines}
use Rattle.observed.specs.End.{end_of}
use Rattle.observed.specs.SeenJob.{SeenData}
use Rattle.observed.specs.declared.promises.Promise.{Promise}
use Rattle.chains.specs.Parts.{bound_in}
use Rattle.chains.specs.declared.bounds.Level.{Level}
use Rattle.chains.specs.declared.bounds.Writes.{Writes}
use Rattle.chains.specs.declared.bounds.Writes.TheVariants.{AtFinish, AtDeadline}
use Rattle.chain_tables.specs.Chains.{ChainData}
use Rattle.lines.specs.Known.{some_words}
use Rattle.chain_runs.specs.RunChainLines.{run_line}
use Rattle.chain_runs.specs.Outcomes.{outcome_of}
use Rattle.chain_runs.specs.declared.outcome.ChainOutcome.{ChainOutcome}
use Rattle.chain_runs.specs.declared.outputs.ChainOutput.{ChainOutput}
use Rattle.chain_traces.specs.DeadlineOutputs.{deadline_outputs}
use Rattle.chain_traces.specs.Executions.{executions_in}
use Rattle.chain_traces.specs.Lates.{most_of, offsets_held}
use Rattle.chain_traces.specs.Outputs.{outputs_in}
use Rattle.chain_traces.specs.Steady.{farthest, is_past, is_unsteady}
use Rattle.chain_traces.specs.declared.executions.Execution.{Execution}
use Rattle.chain_traces.specs.declared.scene.Scene.{Scene}
use Rattle.chain_traces.specs.declared.text.ChainsSeen.{ChainsSeen}

-- the levels of an order of which these are the promises
abbrev pub level_of : Promise → Level
level_of p = record { task = p.task; response = Some p.bound }

-- what is let pass of a trace, the set and the levels of an order, the jobs that are seen, by arrivals, the slices, by time, and when
-- it ends
pub record SceneData : Type 0 where
  pub tolerance : ℕ
  pub set : List Task
  pub levels : List Level
  pub seen : List SeenData
  pub executions : List Execution
  pub end : ℕ

abbrev pub scene_of : Scene → SceneData
scene_of s = record {
  tolerance = s.tolerance;
  set = s.set.now;
  levels = s.levels.now;
  seen = s.seen.now;
  executions = s.executions.now;
  end = s.end;
}

-- ---- a chain
-- what comes of a chain of tasks until the end
abbrev pub outputs_of : Writes → SceneData → (tasks : List ℕ) → List ChainOutput
outputs_of AtFinish s tasks = outputs_in s.end s.executions tasks
outputs_of AtDeadline s tasks = deadline_outputs s.set s.end tasks s.seen

abbrev pub outcome_in : SceneData → ChainData → ChainOutcome
outcome_in s chain = outcome_of s.end (outputs_of chain.writes s chain.tasks)

-- its bound, with these offsets
abbrev pub bound_with : (offsets : List ℕ) → SceneData → ChainData → Option ℕ
bound_with offsets s chain = bound_in chain.writes offsets s.set s.levels chain.tasks

abbrev pub bound_of : SceneData → ChainData → Option ℕ
bound_of s chain = bound_with chain.offsets s chain

-- the same with the offsets to which its age is held, and what that is held against
abbrev pub held_of : SceneData → ChainData → Option ℕ
held_of s chain = bound_with (offsets_held chain.writes s.seen chain.tasks chain.offsets) s chain

abbrev pub most_in : SceneData → ChainData → Option ℕ
most_in s chain = most_of chain.writes s.seen chain.tasks (held_of s chain)

-- an age is past that, where there are both, by more than is let pass
abbrev pub is_old : (tolerance : ℕ) → (age most : Option ℕ) → Bool
is_old tolerance age None = false
is_old tolerance age (Some most) = is_past tolerance most age

-- the line of one that is
abbrev pub old_line : (tolerance : ℕ) → (name : List ℕ) → (age most : Option ℕ) → List ℕ
old_line tolerance name age most =
    if is_old tolerance age most
    then codes "age " ++ name ++ codes " " ++ some_words age ++ codes " of " ++ some_words most ++ codes "\n"
    else []

-- the lines of a chain that comes to this
abbrev pub lines_of : (tolerance : ℕ) → ChainData → ChainOutcome → (bound most : Option ℕ) → List ℕ
lines_of tolerance chain o bound most =
    run_line chain o bound ++ old_line tolerance chain.name o.age most

abbrev pub chain_line : SceneData → ChainData → List ℕ
chain_line s chain =
    lines_of s.tolerance chain (outcome_in s chain) (bound_of s chain) (most_in s chain)

abbrev pub chain_lines : SceneData → List ChainData → List ℕ
chain_lines s [] = []
chain_lines s (chain ∷ chains) = chain_line s chain ++ chain_lines s chains

-- what stands of it is never past that
abbrev pub is_fresh : SceneData → ChainData → Bool
is_fresh s chain = not (is_old s.tolerance (outcome_in s chain).age (most_in s chain))

-- ---- jobs
-- the line of a job of a chain's task that isn't steady
abbrev pub steady_line : (tolerance : ℕ) → List ChainData → SeenData → List ℕ
steady_line tolerance chains s =
    if is_unsteady tolerance chains s
    then codes "steady " ++ s.promise.name ++ codes " " ++ decimal s.arrival ++ codes " " ++ some_words s.gap
    ++ codes " of " ++ decimal (farthest s) ++ codes "\n"
    else []

abbrev pub steady_lines : (tolerance : ℕ) → List ChainData → List SeenData → List ℕ
steady_lines tolerance chains [] = []
steady_lines tolerance chains (s ∷ ss) =
    steady_line tolerance chains s ++ steady_lines tolerance chains ss

-- ---- all
-- a trace, of which so much is let pass, where these jobs are seen of a set in an order of which these are the promises
abbrev pub scene_in : (tolerance : ℕ) → List Task → List Promise → List SeenData → TraceLines → SceneData
scene_in tolerance U promises seen trace = record {
  tolerance = tolerance;
  set = U;
  levels = map level_of promises;
  seen = seen;
  executions = executions_in U trace;
  end = end_of trace.slices.items trace.jobs.items;
}

-- the lines of chains in it: first the jobs of their tasks that aren't steady, by arrivals, then of each what it comes to
abbrev pub chains_said : (tolerance : ℕ) → List Task → List ChainData → List Promise → List SeenData → TraceLines
    → List ℕ
chains_said tolerance U chains promises seen trace =
    steady_lines tolerance chains seen
    ++ chain_lines (scene_in tolerance U promises seen trace) chains

-- none gets too old, and each such job is steady
abbrev pub are_kept : (tolerance : ℕ) → List Task → List ChainData → List Promise → List SeenData → TraceLines → Bool
are_kept tolerance U chains promises seen trace =
    list_all (is_fresh (scene_in tolerance U promises seen trace)) chains
    && not (list_any (is_unsteady tolerance chains) seen)

-- these lines, and whether that is so
pub record AreSeen (tolerance : ℕ) (U : List Task) (chains : List ChainData) (promises : List Promise)
    (seen : List SeenData) (trace : TraceLines) (found : ChainsSeen) : Type 0 where
  pub text : string_bytes found.text ≡ chains_said tolerance U chains promises seen trace
  pub kept : found.are_kept ≡ are_kept tolerance U chains promises seen trace
