-- What each command says of what its readers have.
use Rattle.std.specs.Prelude.{ℕ, List, Option}
use Rattle.command_line.specs.declared.calls.Options.{Options}
use Rattle.command_line.specs.declared.calls.OfOne.{OfOne}
use Rattle.command_line.specs.declared.calls.OfOne.TheVariants.{Admit, Certify, Limits, Settings, Explain, Worst, Script, Play}
use Rattle.command_line.specs.declared.calls.OfTwo.{OfTwo}
use Rattle.command_line.specs.declared.calls.OfTwo.TheVariants.{Check, Judge, Diff, Simulate, Draw, Observe, Keep, WorstAt, ExplainAt, LimitsAt, DrawBeside}
use Rattle.set_commands.specs.Admit.{AdmitsSet, SettlesSet}
use Rattle.set_commands.specs.Certify.{SaysCertified}
use Rattle.two_input_commands.specs.Beside.{BesidesBoth}
use Rattle.two_input_commands.specs.Check.{ChecksBoth}
use Rattle.two_input_commands.specs.Diff.{ComparesBoth}
use Rattle.two_input_commands.specs.ExplainAt.{ExplainsBoth}
use Rattle.two_input_commands.specs.Judge.{JudgesBoth}
use Rattle.two_input_commands.specs.LimitsAt.{LimitsBoth}
use Rattle.two_input_commands.specs.Observe.{ObservesBoth, leeway_of}
use Rattle.two_input_commands.specs.Keep.{KeepsBoth}
use Rattle.set_commands.specs.Explain.{ExplainsSet}
use Rattle.set_commands.specs.Limits.{LimitsSet}
use Rattle.set_commands.specs.OnSet.{OfSet, SaysOnSet}
use Rattle.set_commands.specs.Script.{SaysScript}
use Rattle.set_commands.specs.Worst.{WorstsSet}
use Rattle.script_commands.specs.Play.{SaysPlayed}
use Rattle.two_input_commands.specs.Simulate.{SimulatesBoth}
use Rattle.two_input_commands.specs.Way.{DrawsBoth}
use Rattle.two_input_commands.specs.WorstAt.{WorstsBoth}
use Rattle.answering.specs.OnBoth.{OfBoth, SaysOnBoth}
use Rattle.answering.specs.declared.status.Status.{Status}
use Rattle.answering.specs.Chosen.{asking_of, base_of, chain_of, is_sorted, room_of, task_of, team_chosen}
use Rattle.preferences.specs.ReadsAsked.{lenient}
use Rattle.streams.specs.declared.input.TheConstants.{INPUT_LIMIT, TRACE_LIMIT}
use Rattle.preferences.specs.declared.asking.Asking.{Asking}

-- ---- one input
-- the answer of a command on a set that was placed, by what the words choose; the others don't place it so
abbrev pub OneAnswer : OfOne → Options → OfSet
OneAnswer Admit options = AdmitsSet (is_sorted options)
OneAnswer Limits options = LimitsSet (task_of options)
OneAnswer Settings options = SettlesSet (base_of options) (room_of options)
OneAnswer Explain options = ExplainsSet options.all (is_sorted options) (task_of options)
OneAnswer Worst options = WorstsSet (chain_of options) (task_of options)
OneAnswer _ options = λ placed answer. ⊥

-- what the writer held, what it holds then, and the status, are those of the command's answer on what a reader has
abbrev pub OneSays : OfOne → Options → Option (List ℕ) → (before after : Option (List ℕ))
    → Status → Type 0
OneSays Certify options = SaysCertified (asking_of options)
OneSays Script options = SaysScript (asking_of options) (team_chosen options)
OneSays Play options = SaysPlayed
OneSays command options = SaysOnSet (OneAnswer command options) (asking_of options)

-- ---- two inputs
-- what a call of a command of two inputs asks of its set: of the old one of `diff` no doubt is told
abbrev pub first_asking : OfTwo → Options → Asking
first_asking Diff options = lenient (asking_of options)
first_asking _ options = asking_of options

-- the most bytes that its second input may have
abbrev pub most_of : OfTwo → ℕ
most_of Observe = TRACE_LIMIT
most_of _ = INPUT_LIMIT

-- the answer of a command on a set and a text, by what the words choose
abbrev pub TwoAnswer : OfTwo → Options → OfBoth
TwoAnswer Check options = ChecksBoth
TwoAnswer Judge options = JudgesBoth options.lower_is_higher (is_sorted options)
TwoAnswer Diff options = ComparesBoth (asking_of options)
TwoAnswer Simulate options = SimulatesBoth options.by_task
TwoAnswer Draw options = DrawsBoth (chain_of options) options
TwoAnswer Observe options = ObservesBoth (leeway_of options)
TwoAnswer Keep options = KeepsBoth (base_of options) (room_of options)
TwoAnswer WorstAt options = WorstsBoth (chain_of options) (task_of options)
TwoAnswer LimitsAt options = LimitsBoth (task_of options)
TwoAnswer ExplainAt options = ExplainsBoth (task_of options) (is_sorted options)
TwoAnswer DrawBeside options = BesidesBoth (asking_of options) options

-- what the writer held, what it holds then, and the status, are those of that answer on what two readers have
abbrev pub TwoSay :
    OfTwo → Options → (first second : Option (List ℕ)) → (before after : Option (List ℕ))
    → Status → Type 0
TwoSay command options =
    SaysOnBoth (TwoAnswer command options) (most_of command) (first_asking command options)
