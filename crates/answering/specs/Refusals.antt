-- The line that a refused command prints: the name of the fault and then its fields, each after one space.
-- A task or a section is its place, from 1; the root of a document is 0.
use Rattle.std.specs.Prelude.{ℕ, List, [], ◌++◌, Some, None, codes}
use Rattle.std.specs.Fmt.{decimal}
use Rattle.task_sheet.specs.declared.sheet.SheetCause.{SheetCause}
use Rattle.task_sheet.specs.declared.sheet.SheetCause.TheVariants as cause
use Rattle.task_sheet.specs.declared.sheet.OutranksCause.{OutranksCause}
use Rattle.task_sheet.specs.declared.sheet.OutranksCause.TheVariants as outranks
use Rattle.task_sheet.specs.declared.keys.Key.{Key}
use Rattle.task_sheet.specs.Tree.{word_of}
use Rattle.task_sheet.specs.declared.read.SetFault.{SetFault}
use Rattle.task_sheet.specs.declared.read.SetFault.TheVariants as fault
use Rattle.teams.specs.NodeDocument.{quantity_word}
use Rattle.teams.specs.declared.node.NodeFault.{NodeFault}
use Rattle.teams.specs.declared.node.NodeFault.TheVariants as node
use Rattle.overheads.specs.declared.padding.PadFault.{PadFault}
use Rattle.overheads.specs.declared.padding.PadFault.TheVariants as pad
use Rattle.teams.specs.declared.fault.TeamsFault.{TeamsFault}
use Rattle.teams.specs.declared.fault.TeamsFault.TheVariants as teams
use Rattle.doubts.specs.declared.doubt.Doubt.{Doubt}
use Rattle.doubts.specs.declared.doubt.Doubt.TheVariants as doubt
use Rattle.chain_tables.specs.declared.fault.ChainCause.{ChainCause}
use Rattle.chain_tables.specs.declared.fault.ChainCause.TheVariants as chains
use Rattle.chain_tables.specs.declared.fault.Whose.{Whose}
use Rattle.chain_tables.specs.declared.fault.Whose.TheVariants as whose
use Rattle.chain_tables.specs.declared.fault.ChainFault.{ChainFault}
use Rattle.chain_tables.specs.declared.fault.ChainFault.TheVariants as chain
use Rattle.certificate.specs.declared.fault.CertFault.{CertFault}
use Rattle.certificate.specs.declared.fault.CertFault.TheVariants as text
use Rattle.cert_checker.specs.declared.fault.CheckFault.{CheckFault}
use Rattle.cert_checker.specs.declared.fault.CheckFault.TheVariants as check
use Rattle.ceiling_kernel.specs.declared.trace.RunFault.{RunFault}
use Rattle.ceiling_kernel.specs.declared.trace.RunFault.TheVariants as run
use Rattle.release_list.specs.declared.reading.TextFault.{TextFault}
use Rattle.release_list.specs.declared.reading.TextFault.TheVariants as line
use Rattle.scripts.specs.declared.line.ScriptFault.{ScriptFault}
use Rattle.scripts.specs.declared.line.ScriptFault.TheVariants as script
use Rattle.judge.specs.declared.fault.SettingsFault.{SettingsFault}
use Rattle.judge.specs.declared.fault.SettingsFault.TheVariants as settings
use Rattle.trace_text.specs.declared.fault.TraceFault.{TraceFault}
use Rattle.trace_text.specs.declared.fault.TraceFault.TheVariants as trace
use Rattle.scripts.specs.declared.rush_fault.RushFault.{RushFault}
use Rattle.scripts.specs.declared.rush_fault.RushFault.TheVariants as rush
use Rattle.streams.specs.declared.input.InputFault.TheVariants as input
use Rattle.answering.specs.declared.refusal.CommandRefusal.{CommandRefusal}
use Rattle.answering.specs.declared.refusal.CommandRefusal.TheVariants as refusal
use Rattle.answering.specs.declared.status.Status.{Status}
use Rattle.answering.specs.declared.status.Status.TheVariants as status

-- a name and a place, a line or a level
abbrev pub at_task : List ℕ → ℕ → List ℕ
at_task name place = name ++ codes " " ++ decimal place

-- a name and two places
abbrev pub at_section : List ℕ → ℕ → ℕ → List ℕ
at_section name task section = name ++ codes " " ++ decimal task ++ codes " " ++ decimal section

-- a name, two places and a key
abbrev pub at_key : List ℕ → ℕ → ℕ → Key → List ℕ
at_key name task section key =
    name ++ codes " " ++ decimal task ++ codes " " ++ decimal section ++ codes " " ++ word_of key

-- a name, a level and the name of a task
abbrev pub at_name : List ℕ → ℕ → List ℕ → List ℕ
at_name name level task = name ++ codes " " ++ decimal level ++ codes " " ++ task

-- the fault of a task's sheet
abbrev pub cause_words : ℕ → SheetCause → List ℕ
cause_words task cause.BadWeight = at_task (codes "BadWeight") task
cause_words task cause.BadPeriod = at_task (codes "BadPeriod") task
cause_words task cause.DeadlineZero = at_task (codes "DeadlineZero") task
cause_words task cause.DeadlinePastPeriod = at_task (codes "DeadlinePastPeriod") task
cause_words task cause.CostZero = at_task (codes "CostZero") task
cause_words task cause.CostPastPeriod = at_task (codes "CostPastPeriod") task
cause_words task cause.TooManySections = at_task (codes "TooManySections") task
cause_words task (cause.NoLocks section) = at_section (codes "NoLocks") task section
cause_words task (cause.TooManyLocks section) = at_section (codes "TooManyLocks") task section
cause_words task (cause.LockTwice section) = at_section (codes "LockTwice") task section
cause_words task (cause.LenZero section) = at_section (codes "LenZero") task section
cause_words task (cause.Overlap section) = at_section (codes "Overlap") task section
cause_words task (cause.SectionPastCost section) = at_section (codes "SectionPastCost") task section

-- the fault of a sheet that stands alone
abbrev pub lone_cause_words : SheetCause → List ℕ
lone_cause_words cause.BadWeight = codes "BadWeight"
lone_cause_words cause.BadPeriod = codes "BadPeriod"
lone_cause_words cause.DeadlineZero = codes "DeadlineZero"
lone_cause_words cause.DeadlinePastPeriod = codes "DeadlinePastPeriod"
lone_cause_words cause.CostZero = codes "CostZero"
lone_cause_words cause.CostPastPeriod = codes "CostPastPeriod"
lone_cause_words cause.TooManySections = codes "TooManySections"
lone_cause_words (cause.NoLocks section) = at_task (codes "NoLocks") section
lone_cause_words (cause.TooManyLocks section) = at_task (codes "TooManyLocks") section
lone_cause_words (cause.LockTwice section) = at_task (codes "LockTwice") section
lone_cause_words (cause.LenZero section) = at_task (codes "LenZero") section
lone_cause_words (cause.Overlap section) = at_task (codes "Overlap") section
lone_cause_words (cause.SectionPastCost section) = at_task (codes "SectionPastCost") section

-- the fault of the names of tasks above which a task must stand
abbrev pub outranks_words : OutranksCause → List ℕ
outranks_words outranks.TooManyOutranks = codes "TooManyOutranks"
outranks_words outranks.OutranksTwice = codes "OutranksTwice"
outranks_words outranks.OutranksSelf = codes "OutranksSelf"

-- the fault of a document
abbrev pub fault_words : SetFault → List ℕ
fault_words fault.Syntax = codes "Syntax"
fault_words (fault.UnknownKey task section) = at_section (codes "UnknownKey") task section
fault_words (fault.MissingKey task section key) = at_key (codes "MissingKey") task section key
fault_words (fault.WrongKind task section key) = at_key (codes "WrongKind") task section key
fault_words fault.BadPreference = codes "BadPreference"
fault_words fault.UnknownOverhead = codes "UnknownOverhead"
fault_words (fault.BadOverhead key) = codes "BadOverhead " ++ word_of key
fault_words (fault.BadInterrupt interrupt) = at_task (codes "BadInterrupt") interrupt
fault_words fault.TooManyInterrupts = codes "TooManyInterrupts"
fault_words (fault.BadName task section) = at_section (codes "BadName") task section
fault_words (fault.Sheet task cause) = cause_words task cause
fault_words (fault.BadJitter task) = at_task (codes "BadJitter") task
fault_words (fault.Outranks task cause) = at_task (outranks_words cause) task
fault_words (fault.SameName task) = at_task (codes "SameName") task
fault_words fault.TooManyTasks = codes "TooManyTasks"
fault_words fault.OutOfMemory = codes "OutOfMemory"

-- the fault of a node's document: that of what it says for all teams, or the team and the key, where it is one of them
abbrev pub node_words : NodeFault → List ℕ
node_words node.Syntax = codes "Syntax"
node_words node.UnknownRoot = codes "UnknownKey"
node_words (node.Says fault) = fault_words fault
node_words node.BadStrict = codes "WrongKind 0 0 strict"
node_words node.NoLocks = codes "WrongKind 0 0 locks"
node_words node.BadLockName = codes "BadLock"
node_words (node.BadLock name) = codes "BadLock " ++ name
node_words node.TooManyLocks = codes "TooManyLocks"
node_words node.NoTeams = codes "WrongKind"
node_words node.BadName = codes "BadName"
node_words (node.NoBudget team) = codes "WrongKind " ++ team
node_words (node.UnknownKey team) = codes "UnknownKey " ++ team
node_words (node.NoNumber team quantity) =
    codes "WrongKind " ++ team ++ codes " " ++ quantity_word quantity
node_words (node.NoRight team) = codes "WrongKind " ++ team ++ codes " node"
node_words node.OutOfMemory = codes "OutOfMemory"

-- what the node doesn't leave room for, and the task
abbrev pub padding_words : PadFault → List ℕ
padding_words (pad.CostPastPeriod task) = codes "PaddedCost " ++ task
padding_words (pad.JitterPastDeadline task) = codes "PaddedJitter " ++ task
padding_words pad.OutOfMemory = codes "OutOfMemory"

-- the fault of a set's text; that of a team's document stands behind the team
abbrev pub teams_words : TeamsFault → List ℕ
teams_words (teams.Alone fault) = fault_words fault
teams_words (teams.BadHead part) = at_task (codes "BadHead") part
teams_words (teams.Of team fault) = codes "team " ++ team ++ codes " " ++ fault_words fault
teams_words (teams.Taken team task other) =
    codes "TakenName " ++ team ++ codes " " ++ task ++ codes " " ++ other
teams_words (teams.NodesOwn team key) = codes "NodesOwn " ++ team ++ codes " " ++ word_of key
teams_words (teams.UnknownLock team task section lock) =
    codes "UnknownLock " ++ team ++ codes " " ++ task ++ codes " " ++ decimal section ++ codes " " ++ lock
teams_words (teams.Renamed team task cause) =
    codes "team " ++ team ++ codes " task " ++ task ++ codes " " ++ lone_cause_words cause
teams_words (teams.OtherPreference team other) =
    codes "OtherPreference " ++ team ++ codes " " ++ other
teams_words (teams.OtherNode team other) = codes "OtherNode " ++ team ++ codes " " ++ other
teams_words teams.TooManyInterrupts = codes "TooManyInterrupts"
teams_words (teams.Node fault) = codes "node " ++ node_words fault
teams_words (teams.NoSuchTeam team) = codes "NoSuchTeam " ++ team
teams_words (teams.PastBudget team quantity number limit) =
    codes "PastBudget " ++ team ++ codes " " ++ quantity_word quantity ++ codes " " ++ decimal number
    ++ codes " " ++ decimal limit
teams_words (teams.Padded fault) = padding_words fault
teams_words teams.TooManyTasks = codes "TooManyTasks"
teams_words teams.OutOfMemory = codes "OutOfMemory"

-- what may be a mistake in a set: two names
abbrev pub doubt_words : Doubt → List ℕ
doubt_words (doubt.LoneLock task lock) = codes "LoneLock " ++ task ++ codes " " ++ lock
doubt_words (doubt.NoSuchName task name) = codes "NoSuchName " ++ task ++ codes " " ++ name
doubt_words (doubt.NamesDecide lower higher) =
    codes "NamesDecide " ++ lower ++ codes " " ++ higher

-- the fault of a document's chains: the place of a chain, from 1, and the key
abbrev pub chain_cause_words : ChainCause → List ℕ
chain_cause_words (chains.UnknownKey place) = at_task (codes "ChainUnknownKey") place
chain_cause_words (chains.MissingKey place key) =
    at_task (codes "ChainMissingKey") place ++ codes " " ++ word_of key
chain_cause_words (chains.WrongKind place key) =
    at_task (codes "ChainWrongKind") place ++ codes " " ++ word_of key
chain_cause_words (chains.BadName place) = at_task (codes "BadChainName") place
chain_cause_words (chains.Length place) = at_task (codes "ChainLength") place
chain_cause_words (chains.TaskTwice place) = at_task (codes "ChainTaskTwice") place
chain_cause_words (chains.BadLimit place key) = at_task (codes "BadLimit") place ++ codes " " ++ word_of key
chain_cause_words (chains.BadOffsets place) = at_task (codes "BadOffsets") place
chain_cause_words (chains.BadWrites place) = at_task (codes "BadWrites") place
chain_cause_words chains.TooManyChains = codes "TooManyChains"
chain_cause_words (chains.SameName place) = at_task (codes "SameChain") place

-- that of one of several documents stands behind whose it is
abbrev pub whose_words : Whose → List ℕ
whose_words whose.Alone = []
whose_words whose.Node = codes "node "
whose_words (whose.Team team) = codes "team " ++ team ++ codes " "

-- the fault of a set's chains
abbrev pub chain_words : ChainFault → List ℕ
chain_words (chain.Document whose cause) = whose_words whose ++ chain_cause_words cause
chain_words (chain.Taken team name other) =
    codes "TakenChain " ++ team ++ codes " " ++ name ++ codes " " ++ other
chain_words chain.TooManyChains = codes "TooManyChains"
chain_words (chain.NoSuchTask name task) = codes "ChainTask " ++ name ++ codes " " ++ task
chain_words (chain.BadOffset name task) = codes "BadOffset " ++ name ++ codes " " ++ task
chain_words (chain.TooManyArrivals name) = codes "TooManyArrivals " ++ name
chain_words chain.OutOfMemory = codes "OutOfMemory"

-- the fault of a certificate's text
abbrev pub certificate_words : CertFault → List ℕ
certificate_words text.BadHead = codes "BadHead"
certificate_words (text.BadLine line) = at_task (codes "BadLine") line
certificate_words text.Truncated = codes "Truncated"
certificate_words text.Trailing = codes "Trailing"
certificate_words text.OutOfMemory = codes "OutOfMemory"

-- what a certificate fails to show
abbrev pub check_words : CheckFault → List ℕ
check_words check.WrongVersion = codes "WrongVersion"
check_words (check.WrongTasks level) = at_task (codes "WrongTasks") level
check_words (check.BadPass level) = at_task (codes "BadPass") level
check_words (check.BadChain level name) = at_name (codes "BadChain") level name
check_words (check.MissingFail level name) = at_name (codes "MissingFail") level name
check_words check.EmptySet = codes "EmptySet"
check_words check.WrongChains = codes "WrongChains"
check_words (check.BadAge name) = codes "BadAge " ++ name

-- the fault of a text
abbrev pub text_words : TextFault → List ℕ
text_words (line.BadLine number) = at_task (codes "BadLine") number
text_words line.OutOfMemory = codes "OutOfMemory"

-- what stops a simulation
abbrev pub run_words : RunFault → List ℕ
run_words (run.Unsorted place) = at_task (codes "Unsorted") place
run_words (run.UnknownTask place) = at_task (codes "UnknownTask") place
run_words (run.TooSoon place) = at_task (codes "TooSoon") place
run_words (run.TooLate place) = at_task (codes "TooLate") place
run_words (run.OutsideCost place) = at_task (codes "OutsideCost") place
run_words run.PastHorizon = codes "PastHorizon"
run_words run.TooMany = codes "TooMany"
run_words (run.Overrun name time) = codes "Overrun " ++ name ++ codes " " ++ decimal time
run_words run.OutOfMemory = codes "OutOfMemory"

-- the fault of a script: its line, and there what is wrong with a sheet
abbrev pub script_words : ScriptFault → List ℕ
script_words (script.BadLine number) = at_task (codes "BadLine") number
script_words (script.Sheet number cause) =
    codes "line " ++ decimal number ++ codes " " ++ lone_cause_words cause
script_words (script.BadJitter number) = codes "line " ++ decimal number ++ codes " BadJitter"
script_words (script.Outranks number cause) =
    codes "line " ++ decimal number ++ codes " " ++ outranks_words cause
script_words (script.BadOverhead number) = codes "line " ++ decimal number ++ codes " BadOverhead"
script_words (script.BadInterrupt number) =
    codes "line " ++ decimal number ++ codes " BadInterrupt"
script_words script.OutOfMemory = codes "OutOfMemory"

-- the fault of settings: its line or its name
abbrev pub settings_words : SettingsFault → List ℕ
settings_words (settings.BadLine number) = at_task (codes "BadLine") number
settings_words (settings.UnknownTask number) = at_task (codes "UnknownTask") number
settings_words (settings.UnknownLock number) = at_task (codes "UnknownLock") number
settings_words (settings.SameTask number) = at_task (codes "SameTask") number
settings_words (settings.SameLock number) = at_task (codes "SameLock") number
settings_words (settings.SameNumber number) = at_task (codes "SameNumber") number
settings_words (settings.MissingTask name) = codes "MissingTask " ++ name
settings_words (settings.MissingLock name) = codes "MissingLock " ++ name
settings_words (settings.WrongCeiling name number) = codes "WrongCeiling " ++ name
settings_words settings.OutOfMemory = codes "OutOfMemory"

-- the fault of a trace: its line
abbrev pub trace_words : TraceFault → List ℕ
trace_words (trace.BadLine number) = at_task (codes "BadLine") number
trace_words (trace.SliceOverlap number) = at_task (codes "SliceOverlap") number
trace_words (trace.JobUnsorted number) = at_task (codes "JobUnsorted") number
trace_words trace.TooManyLines = codes "TooManyLines"
trace_words (trace.NoJob number) = at_task (codes "NoJob") number
trace_words trace.OutOfMemory = codes "OutOfMemory"

-- why lines were not run to the end of all teams
abbrev pub rush_words : RushFault → List ℕ
rush_words rush.OutOfMemory = codes "OutOfMemory"
rush_words rush.ThreadRefused = codes "ThreadRefused"
rush_words rush.Foreign = codes "Foreign"
rush_words rush.Behind = codes "Behind"
rush_words rush.ReceiptMismatch = codes "ReceiptMismatch"

-- the name of a refusal with its fields
abbrev pub words_of : CommandRefusal → List ℕ
words_of (refusal.Input input.TooLong) = codes "InputTooLong"
words_of (refusal.Input input.OutOfMemory) = codes "OutOfMemory"
words_of (refusal.Input input.ReadFailed) = codes "ReadFailed"
words_of (refusal.Set fault) = teams_words fault
words_of (refusal.New teams.OutOfMemory) = codes "OutOfMemory"
words_of (refusal.New fault) = codes "new " ++ teams_words fault
words_of (refusal.Doubtful doubt) = doubt_words doubt
words_of (refusal.NewDoubtful doubt) = codes "new " ++ doubt_words doubt
words_of (refusal.Chain fault) = chain_words fault
words_of (refusal.NewChain chain.OutOfMemory) = codes "OutOfMemory"
words_of (refusal.NewChain fault) = codes "new " ++ chain_words fault
words_of (refusal.Certificate fault) = certificate_words fault
words_of (refusal.Check fault) = check_words fault
words_of (refusal.Text fault) = text_words fault
words_of (refusal.Run fault) = run_words fault
words_of (refusal.NewRun run.OutOfMemory) = codes "OutOfMemory"
words_of (refusal.NewRun fault) = codes "new " ++ run_words fault
words_of (refusal.Settings fault) = settings_words fault
words_of (refusal.NewSettings settings.OutOfMemory) = codes "OutOfMemory"
words_of (refusal.NewSettings fault) = codes "new " ++ settings_words fault
words_of (refusal.Trace fault) = trace_words fault
words_of (refusal.Script fault) = script_words fault
words_of (refusal.Rush fault) = rush_words fault
words_of (refusal.NoSuchTask (Some name)) = codes "NoSuchTask " ++ name
words_of (refusal.NoSuchTask None) = codes "NoSuchTask"
words_of (refusal.NoSuchChain (Some name)) = codes "NoSuchChain " ++ name
words_of (refusal.NoSuchChain None) = codes "NoSuchChain"
words_of refusal.ChainBeside = codes "ChainBeside"
words_of refusal.EmptyWindow = codes "EmptyWindow"
words_of refusal.TooManyTeams = codes "TooManyTeams"
words_of refusal.OutOfMemory = codes "OutOfMemory"

-- the line of a refusal
abbrev pub refusal_line : CommandRefusal → List ℕ
refusal_line r = codes "refused: " ++ words_of r ++ codes "\n"

-- the exit status of a refusal
abbrev pub status_of : CommandRefusal → Status
status_of (refusal.Input input.TooLong) = status.BadInput
status_of (refusal.Input input.OutOfMemory) = status.OutOfMemory
status_of (refusal.Input input.ReadFailed) = status.InputOrOutputFailed
status_of (refusal.Set teams.OutOfMemory) = status.OutOfMemory
status_of (refusal.Set _) = status.BadInput
status_of (refusal.New teams.OutOfMemory) = status.OutOfMemory
status_of (refusal.New _) = status.BadInput
status_of (refusal.Doubtful _) = status.BadInput
status_of (refusal.NewDoubtful _) = status.BadInput
status_of (refusal.Chain chain.OutOfMemory) = status.OutOfMemory
status_of (refusal.Chain _) = status.BadInput
status_of (refusal.NewChain chain.OutOfMemory) = status.OutOfMemory
status_of (refusal.NewChain _) = status.BadInput
status_of (refusal.Certificate text.OutOfMemory) = status.OutOfMemory
status_of (refusal.Certificate _) = status.BadCertificate
status_of (refusal.Check _) = status.BadCertificate
status_of (refusal.Text line.OutOfMemory) = status.OutOfMemory
status_of (refusal.Text _) = status.BadInput
status_of (refusal.Run run.OutOfMemory) = status.OutOfMemory
status_of (refusal.Run _) = status.BadInput
status_of (refusal.NewRun run.OutOfMemory) = status.OutOfMemory
status_of (refusal.NewRun _) = status.BadInput
status_of (refusal.Settings settings.OutOfMemory) = status.OutOfMemory
status_of (refusal.Settings _) = status.BadInput
status_of (refusal.NewSettings settings.OutOfMemory) = status.OutOfMemory
status_of (refusal.NewSettings _) = status.BadInput
status_of (refusal.Trace trace.OutOfMemory) = status.OutOfMemory
status_of (refusal.Trace _) = status.BadInput
status_of (refusal.Script script.OutOfMemory) = status.OutOfMemory
status_of (refusal.Script _) = status.BadInput
status_of (refusal.Rush _) = status.OutOfMemory
status_of (refusal.NoSuchTask _) = status.BadInput
status_of (refusal.NoSuchChain _) = status.BadInput
status_of refusal.ChainBeside = status.BadInput
status_of refusal.EmptyWindow = status.BadInput
status_of refusal.TooManyTeams = status.BadInput
status_of refusal.OutOfMemory = status.OutOfMemory
