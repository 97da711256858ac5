-- What `desk simulate` answers and prints.
use Rattle.std.specs.Prelude.{◌≡◌, ◌⊎◌, ℕ, ◌+◌, Bool, true, false, List, [], ◌∷◌, ◌++◌, length, map, string_bytes, Option, Some, None, Result, Ok, Err}
use Rattle.task_sheet.specs.Sheet.{Task}
use Rattle.task_sheet.specs.Indexes.{indexes_of, listed_below}
use Rattle.task_sheet.specs.Levels.{IsGreatestObstruction}
use Rattle.task_sheet.specs.Orders.{IsOrder, IsPassingOrder}
use Rattle.assignment.specs.Places.{PlaceData}
use Rattle.assignment.specs.Placings.{IsBestPlacing, tasks_of_places}
use Rattle.ceiling_kernel.specs.Tick.{node_in}
use Rattle.ceiling_kernel.specs.Runs.{IsNoOverrun, MeetsTighterBounds, Runs}
use Rattle.ceiling_kernel.specs.declared.trace.Release.{Release}
use Rattle.ceiling_kernel.specs.declared.trace.RunFault.{RunFault}
use Rattle.ceiling_kernel.specs.declared.trace.Trace.{Trace}
use Rattle.cut_runs.specs.Cut.{IsShownOf, IsTight, RunsCut}
use Rattle.cut_runs.specs.declared.cut.CutRun.{CutRun}
use Rattle.lines.specs.TextLines.{kept_lines, lines_of}
use Rattle.release_list.specs.Reading.{IsTextFault, list_from}
use Rattle.judge.specs.SettingFaults.{IsRowsFault, IsSettingsFault, rows_fault}
use Rattle.judge.specs.Front.{behind_front, settings_in}
use Rattle.judge.specs.Node.{IsOrderOfRows}
use Rattle.judge.specs.Judgements.{AllJudged, order_judged}
use Rattle.judge.specs.declared.judging.JudgedTask.{JudgedTask}
use Rattle.judge.specs.declared.fault.SettingsFault.{SettingsFault}
use Rattle.judge.specs.declared.rows.SettingRow.{SettingRow}
use Rattle.run_lines.specs.RunLines.{task_lines}
use Rattle.run_lines.specs.Responses.{AllKeptWithin}
use Rattle.run_lines.specs.TaskBounds.{bounds_of, tasks_of_bounds}
use Rattle.run_lines.specs.declared.bounds.TaskBound.{TaskBound}
use Rattle.printed_runs.specs.TraceLines.{trace_lines}
use Rattle.answering.specs.OutcomeLines.{infeasible_line}
use Rattle.chains.specs.declared.bounds.Level.{Level}
use Rattle.chain_tables.specs.Chains.{ChainData}
use Rattle.chain_runs.specs.RunChainLines.{run_chains_said}
use Rattle.two_input_commands.specs.Chained.{response_judged}
use Rattle.answering.specs.OnBoth.{OfBoth}
use Rattle.answering.specs.Printed.{Answers}
use Rattle.answering.specs.declared.refusal.CommandRefusal.{CommandRefusal}
use Rattle.answering.specs.declared.refusal.CommandRefusal.TheVariants as refusal
use Rattle.two_input_commands.specs.declared.reached.ReachedChains.{ReachedChains}
use Rattle.two_input_commands.specs.declared.simulate.Run.{Run}
use Rattle.two_input_commands.specs.declared.simulate.Simulated.{Simulated}
use Rattle.two_input_commands.specs.declared.simulate.Simulated.TheVariants.{Infeasible, Ran}
use Rattle.answering.specs.declared.status.Status.{Status}
use Rattle.answering.specs.declared.status.Status.TheVariants as status

-- what the text of a release list says behind its settings: its end and its releases, or the number of its first faulty line
-- there; where the end is missing, one past the last
abbrev pub list_in : List ℕ → Result (ℕ × List Release) ℕ
list_in text = list_from (1 + length (lines_of text)) (behind_front (kept_lines text))

-- the kernel's answer on the tasks in an order: each job of which the analysis bounds the response is done by then, a tick of
-- what blocks it sooner; and none overruns where the order passes
abbrev pub RunsOrder : List Task → List ℕ → List Release → ℕ → Result Trace CommandRefusal → Type 0
RunsOrder U order rs until (Ok trace) =
    Runs (node_in U order) rs until (Ok trace)
    × MeetsTighterBounds (node_in U order) rs until trace
RunsOrder U order rs until (Err (refusal.Run fault)) =
    Runs (node_in U order) rs until (Err fault) × (IsPassingOrder U order → IsNoOverrun fault)
RunsOrder U order rs until (Err refusal.OutOfMemory) = Unit {0}
RunsOrder U order rs until _ = ⊥

-- the same of a run that may be cut: up to the first overrun, so that it is refused for none
abbrev pub RunsOrderCut : List Task → List ℕ → List Release → ℕ → Result CutRun CommandRefusal → Type 0
RunsOrderCut U order rs until (Ok run) =
    RunsCut (node_in U order) rs until (Ok run) × IsTight (node_in U order) run
RunsOrderCut U order rs until (Err (refusal.Run fault)) =
    RunsCut (node_in U order) rs until (Err fault)
RunsOrderCut U order rs until (Err refusal.OutOfMemory) = Unit {0}
RunsOrderCut U order rs until _ = ⊥

-- what happens in a run of an order, and what the bounds that there are promise of it: each job whose bound lies in the run
-- is done by then, and a tick of the section that blocks it sooner; and none is done later
pub record IsRunOf (U : List Task) (bounds : List TaskBound) (rs : List Release) (until : ℕ)
    (trace : Trace) : Type 0 where
  pub ran : Runs (node_in U (tasks_of_bounds bounds)) rs until (Ok trace)
  pub kept : AllKeptWithin U bounds rs until trace
  pub tighter : MeetsTighterBounds (node_in U (tasks_of_bounds bounds)) rs until trace

-- ---- the order
-- what settings say gives this order to a set's tasks, the lowest first; there are some
abbrev pub IsListedOrder : List Task → Result (List SettingRow) ℕ → List ℕ → Type 0
IsListedOrder U (Ok (row ∷ rows)) order = IsOrderOfRows false U (row ∷ rows) order
IsListedOrder U _ order = ⊥

-- the first reason why they give none; none where there are none
abbrev pub order_fault : List Task → Result (List SettingRow) ℕ → Option SettingsFault
order_fault U (Ok (row ∷ rows)) = rows_fault false U (Ok (row ∷ rows))
order_fault U _ = None

-- what becomes of each task in the order that settings give, the lowest first; there are some
pub record AreJudgedBy (U : List Task) (settings : Result (List SettingRow) ℕ)
    (judged : List JudgedTask) : Type 0 where
  pub order : IsListedOrder U settings (order_judged judged)
  pub each : AllJudged U judged

-- the bounds of tasks that were judged: their responses, where they meet their deadlines
abbrev pub bounds_judged : List JudgedTask → List TaskBound
bounds_judged judged = map (λ j. record { task = j.task; bound = response_judged j.judgement }) judged

-- these are the bounds of a run's order: of the one that settings give; or, where there are none, of the set's best order, in
-- which no overrun cuts the run
abbrev pub AreBoundsIn : List Task → Result (List SettingRow) ℕ → (listed : Bool) → (overrun : Option (List ℕ))
    → List TaskBound → Type 0
AreBoundsIn U settings true overrun bounds =
    (judged : List JudgedTask) × AreJudgedBy U settings judged × (bounds ≡ bounds_judged judged)
AreBoundsIn U settings false overrun bounds =
    (places : List PlaceData) × IsBestPlacing U places × (bounds ≡ bounds_of places)
    × (settings ≡ Ok []) × (overrun ≡ None)

-- of a list a run shows all, or what comes before the first overrun
abbrev pub IsListShown : List Task → ℕ → List Release → Run → Type 0
IsListShown U until rs run =
    IsShownOf (node_in U (tasks_of_bounds run.bounds.items)) rs until run.overrun run.releases.items run.until

-- ---- the answer
-- what comes of a set, of settings and of a list: a run in the order that they give, or else in the set's best order, or
-- that there is no such order
abbrev pub IsSimulated : List Task → Result (List SettingRow) ℕ → Result (ℕ × List Release) ℕ
    → Simulated → Type 0
IsSimulated U settings list (Ran run) =
    AreBoundsIn U settings run.is_listed run.overrun run.bounds.items
    × ((until : ℕ) × (rs : List Release) × (list ≡ Ok (until, rs)) × IsListShown U until rs run)
    × IsRunOf U run.bounds.items run.releases.items run.until run.trace
IsSimulated U settings list (Infeasible left) =
    (settings ≡ Ok []) × IsGreatestObstruction U (indexes_of left)
    × ((until : ℕ) × (rs : List Release) × (list ≡ Ok (until, rs)))

-- the answer on a set and a list in an order of the set
abbrev pub SimulatesIn : List Task → List ℕ → ℕ → List Release → Result Simulated CommandRefusal → Type 0
SimulatesIn U order until rs (Ok (Ran run)) =
    (run.is_listed ≡ true)
    × ((judged : List JudgedTask) × (order_judged judged ≡ order) × AllJudged U judged
    × (run.bounds.items ≡ bounds_judged judged))
    × IsListShown U until rs run
    × IsRunOf U run.bounds.items run.releases.items run.until run.trace
SimulatesIn U order until rs (Ok _) = ⊥
SimulatesIn U order until rs (Err r) = RunsOrderCut U order rs until (Err r)

-- why a list isn't run in a set's best order, in which no job overruns the one before it
abbrev pub IsStopped : List Task → Result (List SettingRow) ℕ → Result (ℕ × List Release) ℕ
    → RunFault → Type 0
IsStopped U settings list fault =
    (settings ≡ Ok [])
    × ((places : List PlaceData) × (until : ℕ) × (rs : List Release) × IsBestPlacing U places
    × (list ≡ Ok (until, rs)) × Runs (node_in U (tasks_of_places places)) rs until
    (Err fault) × IsNoOverrun fault)

-- why one isn't run in an order that settings give: no job of what is run of it does
abbrev pub IsStoppedInOrder : List Task → Result (List SettingRow) ℕ → Result (ℕ × List Release) ℕ
    → RunFault → Type 0
IsStoppedInOrder U settings list fault =
    (order : List ℕ) × (until : ℕ) × (rs : List Release) × IsListedOrder U settings order
    × (list ≡ Ok (until, rs)) × RunsOrderCut U order rs until (Err (refusal.Run fault))

-- the answer on a set, on settings and on a list: the lines of both come first, and then the order
abbrev pub SimulatesRead : List Task → Result (List SettingRow) ℕ → Result (ℕ × List Release) ℕ
    → Result Simulated CommandRefusal → Type 0
SimulatesRead U settings list (Ok answer) = IsSimulated U settings list answer
SimulatesRead U settings list (Err (refusal.Settings fault)) =
    IsRowsFault fault settings
    ⊎ ((until : ℕ) × (rs : List Release) × (list ≡ Ok (until, rs))
    × IsSettingsFault fault (order_fault U settings))
SimulatesRead U settings list (Err (refusal.Text fault)) =
    (rows : List SettingRow) × (settings ≡ Ok rows) × IsTextFault fault list
SimulatesRead U settings list (Err (refusal.Run fault)) =
    IsStopped U settings list fault ⊎ IsStoppedInOrder U settings list fault
SimulatesRead U settings list (Err refusal.OutOfMemory) = Unit {0}
SimulatesRead U settings list _ = ⊥

-- the answer on a set and the text of a release list
abbrev pub SimulatesText : List Task → List ℕ → Result Simulated CommandRefusal → Type 0
SimulatesText U text answer = SimulatesRead U (settings_in text) (list_in text) answer

-- what is printed of what came of a set
abbrev pub simulation_said : List Task → Simulated → List ℕ
simulation_said U (Ran run) = trace_lines run.trace
simulation_said U (Infeasible left) = infeasible_line U (listed_below (length U) (indexes_of left))

-- the exit status of what came of a set
abbrev pub simulation_status : Simulated → Status
simulation_status (Ran run) = status.Done
simulation_status (Infeasible left) = status.Infeasible

-- what is printed of what came of a set, by task: a line for each, the lowest level first, and then what is told of its chains
abbrev pub reached_said : List Task → ReachedChains → Simulated → List ℕ
reached_said U told (Ran run) =
    task_lines U run.trace.jobs.items run.bounds.items ++ string_bytes told.text
reached_said U told (Infeasible left) = infeasible_line U (listed_below (length U) (indexes_of left))

-- a run is one in an order of the set
abbrev pub IsInOrder : List Task → Simulated → Type 0
IsInOrder U (Ran run) = IsOrder U (tasks_of_bounds run.bounds.items)
IsInOrder U (Infeasible left) = Unit {0}

-- ---- chains
-- the level of a task with a bound
abbrev pub level_of_bound : TaskBound → Level
level_of_bound b = record { task = b.task; response = b.bound }

-- the lines of chains in a run, by the bounds that tasks have in its order; nothing where there is none
abbrev pub chains_reached : List Task → List ChainData → Simulated → List ℕ
chains_reached U chains (Ran run) =
    run_chains_said U (map level_of_bound run.bounds.items) run.until run.trace chains
chains_reached U chains (Infeasible left) = []

-- the answer on a set with these chains and the text of a release list, and what is told of the chains
abbrev pub ReachesText : List ChainData → List Task → List ℕ
    → Result (Simulated × ReachedChains) CommandRefusal → Type 0
ReachesText chains U text (Ok found) =
    SimulatesText U text (Ok found.0)
    × (string_bytes found.1.text ≡ chains_reached U chains found.0)
ReachesText chains U text (Err r) = SimulatesText U text (Err r)

-- ---- what is said
-- the answer on both: the lines of a trace, or those of what the tasks and the chains came to, where the words say so
abbrev pub SimulatesBoth : (by_task : Bool) → OfBoth
SimulatesBoth false both =
    Answers (SimulatesText both.tasks both.text.items) (simulation_said both.tasks) simulation_status
SimulatesBoth true both =
    Answers (ReachesText both.chains.items both.tasks both.text.items)
    (λ found. reached_said both.tasks found.1 found.0) (λ found. simulation_status found.0)
