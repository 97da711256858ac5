-- What is shown of a chain: the run that its bound describes, and what the chain comes to there.
use Rattle.std.specs.Prelude.{◌≡◌, ℕ, ◌+◌, ◌<◌, ◌≤◌, List, [], ◌++◌, length, codes, Option, Some, None, Ok}
use Rattle.std.specs.Fmt.{decimal}
use Rattle.task_sheet.specs.Sheet.{Task}
use Rattle.lines.specs.Known.{some_words}
use Rattle.ceiling_kernel.specs.declared.accept.TheConstants.{HORIZON, RELEASE_LIMIT}
use Rattle.ceiling_kernel.specs.Tick.{node_in}
use Rattle.ceiling_kernel.specs.declared.trace.Release.{Release}
use Rattle.cut_runs.specs.Cut.{RunsCut}
use Rattle.chains.specs.Parts.{bound_in, order_of, steps_of, time_in}
use Rattle.chains.specs.declared.bounds.Level.{Level}
use Rattle.chains.specs.declared.bounds.Writes.{Writes}
use Rattle.chains.specs.declared.walks.Step.{Step}
use Rattle.chain_tables.specs.Chains.{ChainData}
use Rattle.chain_runs.specs.ChainOutputs.{outputs_of}
use Rattle.chain_runs.specs.Outcomes.{ages_of}
use Rattle.release_list.specs.Text.{list_lines}
use Rattle.chain_worst.specs.Aims.{AreAims, begin_of, early_of, end_of}
use Rattle.chain_worst.specs.Built.{all_jobs, built_of}
use Rattle.chain_worst.specs.declared.aims.Aim.{Aim}
use Rattle.chain_worst.specs.declared.shown.ChainCase.{ChainCase}
use Rattle.chain_worst.specs.declared.shown.ChainCase.TheVariants.{NoBound, PastHorizon, Ran, TooMany}
use Rattle.chain_worst.specs.declared.shown.ChainRun.{ChainRun}

-- when something comes to the first task of a chain with these steps: a tick after a job that comes too early
abbrev pub walk_begin : List Task → List Step → (tasks : List ℕ) → ℕ
walk_begin U steps tasks = early_of steps (begin_of U tasks) + 1

-- when its run ends
abbrev pub run_end : List Task → List Step → (tasks : List ℕ) → ℕ
run_end U steps tasks = end_of steps (walk_begin U steps tasks)

-- its aims and the end of its run, in an order whose levels have responses
pub record IsPlanOf (U : List Task) (levels : List Level) (steps : List Step) (tasks : List ℕ) (found : List Aim)
    (until : ℕ) : Type 0 where
  pub aims : AreAims U levels steps (walk_begin U steps tasks) tasks found
  pub end : until ≡ run_end U steps tasks
  pub horizon : until ≤ HORIZON

-- a list is run in this order, up to its end or to the first overrun, and this is the greatest age there
pub record IsRunOf (writes : Writes) (U : List Task) (levels : List Level) (tasks : List ℕ) (most : ℕ)
    (rs : List Release) (until : ℕ) (run : ChainRun) : Type 0 where
  pub ran : RunsCut (node_in U (order_of levels)) rs until (Ok run.run)
  pub bound : run.bound ≡ most
  pub seen : run.seen ≡ ages_of run.run.until (outputs_of writes U run.run.until run.run.trace tasks)

-- the run that the bound describes is
abbrev pub IsChainRun : Writes → List Task → List Level → List Step → List ℕ → (bound : ℕ) → ChainRun → Type 0
IsChainRun writes U levels steps tasks bound run =
    (aims : List Aim) × (until : ℕ) × IsPlanOf U levels steps tasks aims until
    × IsRunOf writes U levels tasks bound (built_of U until aims) until run

-- what is shown of a chain of these tasks with these steps and this bound, if it has one
abbrev pub IsCaseBy : Writes → List Task → List Level → List Step → List ℕ → Option ℕ → ChainCase → Type 0
IsCaseBy writes U levels steps tasks None NoBound = Unit {0}
IsCaseBy writes U levels steps tasks (Some bound) PastHorizon = HORIZON < run_end U steps tasks
IsCaseBy writes U levels steps tasks (Some bound) TooMany =
    (aims : List Aim) × (until : ℕ) × IsPlanOf U levels steps tasks aims until
    × (RELEASE_LIMIT < length (all_jobs U until aims))
IsCaseBy writes U levels steps tasks (Some bound) (Ran run) = IsChainRun writes U levels steps tasks bound run
IsCaseBy writes U levels steps tasks _ _ = ⊥

abbrev pub IsCaseOf : Writes → (offsets : List ℕ) → List Task → List Level → List ℕ → ChainCase → Type 0
IsCaseOf writes offsets U levels tasks case =
    IsCaseBy writes U levels (steps_of writes offsets (node_in U (order_of levels)) (time_in levels) tasks) tasks
    (bound_in writes offsets U levels tasks) case

-- ---- lines
-- the line of comment
abbrev pub comment : (name words : List ℕ) → List ℕ
comment name words = codes "# " ++ name ++ codes " " ++ words ++ codes "\n"

-- a reason why there is no run, behind what stands in front of a list that of no releases
abbrev pub none_lines : ChainData → (words front : List ℕ) → List ℕ
none_lines chain words front = comment chain.name words ++ front ++ list_lines 0 []

abbrev pub no_bound_lines : ChainData → (front : List ℕ) → List ℕ
no_bound_lines chain front = none_lines chain (codes "no-bound") front

-- what is printed of a chain, with this in front of the list
abbrev pub case_lines : ChainData → (front : List ℕ) → ChainCase → List ℕ
case_lines chain front NoBound = no_bound_lines chain front
case_lines chain front PastHorizon = none_lines chain (codes "past-horizon") front
case_lines chain front TooMany = none_lines chain (codes "too-many-releases") front
case_lines chain front (Ran run) =
    comment chain.name (some_words run.seen ++ codes " of " ++ decimal run.bound) ++ front
    ++ list_lines run.run.until run.run.releases.items

-- a text is what is printed of a chain in an order whose levels have responses
abbrev pub AreChainLines : List Task → List Level → (front : List ℕ) → ChainData → List ℕ → Type 0
AreChainLines U levels front chain text =
    (case : ChainCase) × IsCaseOf chain.writes chain.offsets U levels chain.tasks case × (text ≡ case_lines chain front case)
