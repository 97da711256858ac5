-- What a call prints and how it ends, on the inputs that it names.
use Rattle.std.specs.Prelude.{ℕ, List, Option}
use Rattle.desk_cli.specs.Commands.{OneSays, TwoSay}
use Rattle.answering.specs.Chosen.{asking_of}
use Rattle.set_commands.specs.Releases.{SaysList}
use Rattle.script_commands.specs.Rush.{SaysRushed}
use Rattle.streams.specs.Watching.{WatchedData}
use Rattle.answering.specs.declared.status.Status.{Status}
use Rattle.command_line.specs.declared.calls.Input.{Input}
use Rattle.command_line.specs.declared.calls.Options.{Options}
use Rattle.command_line.specs.declared.calls.OfNumber.{OfNumber}
use Rattle.command_line.specs.declared.calls.OfNumber.TheVariants.{Releases, Rush}
use Rattle.command_line.specs.declared.calls.Call.{Call}
use Rattle.command_line.specs.declared.calls.Call.TheVariants.{One, Two, Number}

-- what the writer held, what it holds then, and the status, are those of the answer of a command with a number on what a
-- reader has; of `rush`, whose commits are tested by at most so many workers, it says what
-- becomes of the errors, too
abbrev pub NumberSays :
    {E : Type 0} → OfNumber → Options → ℕ → Option (List ℕ) → (before after : Option (List ℕ))
    → (E → Option (List ℕ)) → (old new : WatchedData E) → Status → Type 0
NumberSays Releases options until known before after told old new s =
    SaysList (asking_of options) options.seed until known before after s
NumberSays Rush options workers known before after told old new s =
    SaysRushed known workers before after told old new s

-- where inputs have some bytes, the answer of the call's command is printed after what the writer held, and
-- the status is the answer's
abbrev pub CallSays :
    {E : Type 0} → (Input → Option (List ℕ)) → Call → (before after : Option (List ℕ))
    → (E → Option (List ℕ))
    → (old new : WatchedData E) → Status → Type 0
CallSays has (One command input options) before after told old new s =
    OneSays command options (has input) before after s
CallSays has (Two command first second options) before after told old new s =
    TwoSay command options (has first) (has second) before after s
CallSays has (Number command input number options) before after told old new s =
    NumberSays command options number (has input) before after told old new s

-- a command with a number may write to the errors
abbrev pub NumberTells : OfNumber → Type 0
NumberTells Releases = ⊥
NumberTells Rush = Unit {0}

-- the call's command may write to the errors
abbrev pub MayTell : Call → Type 0
MayTell (Number command input number options) = NumberTells command
MayTell _ = ⊥
