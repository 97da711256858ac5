-- What `desk observe` answers and prints.
use Rattle.std.specs.Prelude.{◌≡◌, ◌⊎◌, ℕ, Bool, ◌<◌, ◌&&◌, true, false, List, [], ◌∷◌, ◌++◌, length, string_bytes, All, None, Result, Ok, Err, unwrap_or, if◌then◌else◌}
use Rattle.task_sheet.specs.declared.set.TheConstants.{TASK_LIMIT}
use Rattle.task_sheet.specs.Sheet.{Task}
use Rattle.task_sheet.specs.Indexes.{indexes_of, listed_below}
use Rattle.task_sheet.specs.Levels.{IsGreatestObstruction}
use Rattle.lines.specs.TextLines.{kept_lines}
use Rattle.command_line.specs.declared.calls.Options.{Options}
use Rattle.assignment.specs.Places.{PlaceData}
use Rattle.assignment.specs.Placings.{IsBestPlacing}
use Rattle.judge.specs.SettingFaults.{IsRowsFault, IsSettingsFault}
use Rattle.judge.specs.Front.{behind_front, settings_in}
use Rattle.judge.specs.Judgements.{all_meet, judged_of, order_judged}
use Rattle.judge.specs.JudgedLines.{judged_lines}
use Rattle.judge.specs.Node.{AreNumbersOf}
use Rattle.judge.specs.declared.node.JudgedNode.{JudgedNode}
use Rattle.judge.specs.declared.rows.SettingRow.{SettingRow}
use Rattle.trace_text.specs.TraceFaults.{IsTraceFault, IsTraceOf, rows_fault as trace_rows_fault}
use Rattle.trace_text.specs.TraceLines.{rows_from}
use Rattle.trace_text.specs.declared.fault.TraceFault.{TraceFault}
use Rattle.trace_text.specs.declared.reading.TraceLines.{TraceLines}
use Rattle.trace_text.specs.declared.rows.TraceRow.{TraceRow}
use Rattle.observed.specs.Observed.{observed_fault}
use Rattle.observed.specs.Promises.{levels_from, promises_of}
use Rattle.observed.specs.Sights.{IsShownAt}
use Rattle.observed.specs.declared.sight.Observed.{Observed}
use Rattle.observed_lines.specs.Jobless.{is_clean}
use Rattle.observed_lines.specs.ObservedLines.{observed_lines}
use Rattle.observed_lines.specs.declared.leeway.Leeway.{Leeway}
use Rattle.two_input_commands.specs.Judge.{judged_status}
use Rattle.answering.specs.OutcomeLines.{infeasible_line}
use Rattle.chain_tables.specs.Chains.{ChainData}
use Rattle.chain_traces.specs.TraceChainLines.{AreSeen}
use Rattle.chain_traces.specs.declared.text.ChainsSeen.{ChainsSeen}
use Rattle.answering.specs.OnBoth.{OfBoth}
use Rattle.answering.specs.Printed.{Answers}
use Rattle.two_input_commands.specs.Simulate.{AreJudgedBy, order_fault}
use Rattle.two_input_commands.specs.declared.observe_lines.Observation.{Observation}
use Rattle.two_input_commands.specs.declared.observe_lines.Observation.TheVariants.{Seen, Infeasible, Missed}
use Rattle.answering.specs.declared.refusal.CommandRefusal.{CommandRefusal}
use Rattle.answering.specs.declared.refusal.CommandRefusal.TheVariants as refusal
use Rattle.answering.specs.declared.status.Status.{Status}
use Rattle.answering.specs.declared.status.Status.TheVariants as status

-- what is let pass of a trace: no time past what is promised, and no task without a job, where the words don't say it
abbrev pub leeway_of : Options → Leeway
leeway_of options =
    record { tolerance = unwrap_or options.tolerance 0; jobless = options.jobless }

-- ---- the text
-- what a text says behind its settings, or the number of its first faulty line there
abbrev pub rows_behind : List ℕ → Result (List TraceRow) ℕ
rows_behind text = rows_from (behind_front (kept_lines text))

-- ---- an order that the trace gives
-- what becomes of each task in the order that settings give, with the numbers that they have of the threads
pub record IsNodeOf (U : List Task) (settings : Result (List SettingRow) ℕ) (node : JudgedNode) : Type 0 where
  pub judged : AreJudgedBy U settings node.judged.items
  pub rows : List SettingRow
  pub read : settings ≡ Ok rows
  pub numbers : AreNumbersOf U rows (order_judged node.judged.items) node.numbers.items

-- these are the places of the order in which a trace is looked at, and the numbers of its threads: of the one that settings
-- give, in which all tasks meet their deadlines; or, where there are none, of the set's best order, by its levels
abbrev pub AreLevelsIn : List Task → Result (List SettingRow) ℕ → (given : Bool) → List ℕ → List PlaceData
    → Type 0
AreLevelsIn U settings true numbers places =
    AreJudgedBy U settings (judged_of places)
    × ((rows : List SettingRow) × (settings ≡ Ok rows) × AreNumbersOf U rows (order_judged (judged_of places)) numbers)
AreLevelsIn U settings false numbers places =
    IsBestPlacing U places × (numbers ≡ levels_from 1 places) × (settings ≡ Ok [])

-- what was read is a trace, which is looked at in that order
pub record IsLookedAt (U : List Task) (settings : Result (List SettingRow) ℕ) (found : Result (List TraceRow) ℕ)
    (given : Bool) (numbers : List ℕ) (places : List PlaceData) (trace : TraceLines) : Type 0 where
  pub levels : AreLevelsIn U settings given numbers places
  pub read : IsTraceOf found trace

-- ---- the answer
-- what a trace shows of a set: the promises of an order, and what is seen of each job; or, where nothing is promised, that no
-- order passes, or what becomes of each task in the order that settings give
abbrev pub IsObservation : List Task → Result (List SettingRow) ℕ → Result (List TraceRow) ℕ
    → Observation → Type 0
IsObservation U settings found (Seen given observed) =
    (numbers : List ℕ) × (places : List PlaceData) × (trace : TraceLines)
    × IsLookedAt U settings found given numbers places trace × IsShownAt U numbers places trace observed
IsObservation U settings found (Infeasible members) =
    (settings ≡ Ok []) × IsGreatestObstruction U (indexes_of members) × (trace_rows_fault found ≡ None)
IsObservation U settings found (Missed node) =
    IsNodeOf U settings node × (all_meet node.judged.items ≡ false) × (trace_rows_fault found ≡ None)

-- why it shows nothing: out of memory; it is no trace; or a slice of a task lies in no job of it
abbrev pub IsUnseen : List Task → Result (List SettingRow) ℕ → Result (List TraceRow) ℕ → TraceFault
    → Type 0
IsUnseen U settings found fault =
    ((rows : List SettingRow) × (settings ≡ Ok rows) × IsTraceFault fault (trace_rows_fault found))
    ⊎ ((given : Bool) × (numbers : List ℕ) × (places : List PlaceData) × (trace : TraceLines)
    × IsLookedAt U settings found given numbers places trace
    × IsTraceFault fault (observed_fault (promises_of U numbers places) trace))

-- the answer on a set, on settings and on what stands behind them: the lines of both come first, and then the order
abbrev pub ObservesRead : List Task → Result (List SettingRow) ℕ → Result (List TraceRow) ℕ
    → Result Observation CommandRefusal → Type 0
ObservesRead U settings found (Ok answer) = IsObservation U settings found answer
ObservesRead U settings found (Err (refusal.Settings fault)) =
    IsRowsFault fault settings
    ⊎ ((trace_rows_fault found ≡ None) × IsSettingsFault fault (order_fault U settings))
ObservesRead U settings found (Err (refusal.Trace fault)) = IsUnseen U settings found fault
ObservesRead U settings found (Err refusal.OutOfMemory) = Unit {0}
ObservesRead U settings found _ = ⊥

-- the answer on a set and the text of a trace
abbrev pub ObservesText : List Task → List ℕ → Result Observation CommandRefusal → Type 0
ObservesText U text answer = ObservesRead U (settings_in text) (rows_behind text) answer

-- ---- chains
-- the trace of a text behind settings, or why there is none
abbrev pub ReadsBehind : Result (List SettingRow) ℕ → Result (List TraceRow) ℕ
    → Result TraceLines CommandRefusal → Type 0
ReadsBehind settings found (Ok trace) = IsTraceOf found trace
ReadsBehind settings found (Err (refusal.Settings fault)) = IsRowsFault fault settings
ReadsBehind settings found (Err (refusal.Trace fault)) =
    (rows : List SettingRow) × (settings ≡ Ok rows) × IsTraceFault fault (trace_rows_fault found)
ReadsBehind settings found _ = ⊥

abbrev pub ReadsTrace : List ℕ → Result TraceLines CommandRefusal → Type 0
ReadsTrace text answer = ReadsBehind (settings_in text) (rows_behind text) answer

-- nothing is said of chains
pub record AreSilent (told : ChainsSeen) : Type 0 where
  pub text : string_bytes told.text ≡ []
  pub kept : told.are_kept ≡ true

-- this is said of chains in the trace of a text, beside what that shows of the set's jobs
abbrev pub AreWatchedIn : Leeway → List ChainData → List Task → List ℕ → Observed → ChainsSeen → Type 0
AreWatchedIn leeway chains U text shown told =
    (trace : TraceLines) × IsTraceOf (rows_behind text) trace
    × AreSeen leeway.tolerance U chains shown.promises.items shown.seen.items trace told

-- where something is promised
abbrev pub AreWatchedBy : Leeway → List ChainData → List Task → List ℕ → Observation → ChainsSeen → Type 0
AreWatchedBy leeway chains U text (Seen given shown) told = AreWatchedIn leeway chains U text shown told
AreWatchedBy leeway chains U text _ told = AreSilent told

-- and where there are chains
abbrev pub AreWatched : Leeway → List ChainData → List Task → List ℕ → Observation → ChainsSeen → Type 0
AreWatched leeway [] U text shown told = AreSilent told
AreWatched leeway (chain ∷ chains) U text shown told =
    AreWatchedBy leeway (chain ∷ chains) U text shown told

-- the answer on a set, its chains and the text of a trace
abbrev pub WatchesText : Leeway → List ChainData → List Task → List ℕ
    → Result (Observation × ChainsSeen) CommandRefusal → Type 0
WatchesText leeway chains U text (Ok found) =
    ObservesText U text (Ok found.0) × AreWatched leeway chains U text found.0 found.1
WatchesText leeway chains U text (Err r) = ObservesText U text (Err r)

-- what was found speaks of tasks that a set may have
abbrev pub IsObservationOf : Observation → Type 0
IsObservationOf (Missed node) = All (λ j. j.task < TASK_LIMIT) node.judged.items
IsObservationOf _ = Unit {0}

-- what is printed of what a trace shows of a set and of its chains; of an order that promises nothing, what `desk judge` prints
abbrev pub observation_said : Leeway → List Task → Observation → ChainsSeen → List ℕ
observation_said leeway U (Seen given shown) told =
    observed_lines leeway shown.promises.items shown.seen.items ++ string_bytes told.text
observation_said leeway U (Infeasible members) told =
    infeasible_line U (listed_below (length U) (indexes_of members))
observation_said leeway U (Missed node) told = judged_lines false U node.judged.items node.numbers.items

-- the exit status of what is seen of jobs and chains
abbrev pub observed_status : Leeway → Observed → ChainsSeen → Status
observed_status leeway shown told =
    if is_clean leeway shown.promises.items shown.seen.items && told.are_kept
    then status.Done
    else status.Infeasible

-- the exit status of what a trace shows
abbrev pub observation_status : Leeway → Observation → ChainsSeen → Status
observation_status leeway (Seen given shown) told = observed_status leeway shown told
observation_status leeway (Infeasible members) told = status.Infeasible
observation_status leeway (Missed node) told = judged_status node.judged.items

-- the answer on both
abbrev pub ObservesBoth : Leeway → OfBoth
ObservesBoth leeway both =
    Answers (WatchesText leeway both.chains.items both.tasks both.text.items)
    (λ found. observation_said leeway both.tasks found.0 found.1)
    (λ found. observation_status leeway found.0 found.1)
