-- What a command says once its inputs are read.
use Rattle.std.specs.Prelude.{ℕ, List, Option, Err}
use Rattle.command_line.specs.declared.calls.Options.{Options}
use Rattle.command_line.specs.declared.calls.OfOne.{OfOne}
use Rattle.command_line.specs.declared.calls.OfOne.TheVariants.{Certify, Script, Play}
use Rattle.command_line.specs.declared.calls.OfTwo.{OfTwo}
use Rattle.desk_cli.specs.Commands.{OneSays, TwoSay, first_asking, most_of}
use Rattle.answering.specs.Chosen.{asking_of}
use Rattle.script_commands.specs.Play.{Scripts}
use Rattle.answering.specs.Sets.{HasNoSet}
use Rattle.answering.specs.OnBoth.{HaveBoth}
use Rattle.set_commands.specs.OnSet.{HasPlaced}
use Rattle.set_commands.specs.declared.chained.Placed.{Placed}
use Rattle.answering.specs.declared.refusal.CommandRefusal.{CommandRefusal}
use Rattle.answering.specs.declared.sets.Both.{Both}
use Rattle.answering.specs.declared.status.Status.{Status}

-- why a command of one input has no answer
abbrev pub IsRefusalOf : OfOne → Options → Option (List ℕ) → CommandRefusal → Type 0
IsRefusalOf Play options known r = Scripts known (Err r)
IsRefusalOf _ options known r = HasNoSet (asking_of options) known r

-- the command speaks of what becomes of a set's tasks, with nothing that shows it
abbrev pub IsOfPlacing : OfOne → Type 0
IsOfPlacing Certify = ⊥
IsOfPlacing Script = ⊥
IsOfPlacing Play = ⊥
IsOfPlacing _ = Unit {0}

-- what a command says of each reader that has this set, which was placed, by what the words choose
abbrev pub SaysOfSet :
    OfOne → Options → Placed → (before after : Option (List ℕ)) → Status → Type 0
SaysOfSet command options placed before after s =
    (known : Option (List ℕ)) → HasPlaced (asking_of options) known placed → OneSays command options known before after s

-- what a command says of each two readers that have this set and this text, by what the words choose
abbrev pub SaysOfBoth : OfTwo → Options → Both → (before after : Option (List ℕ)) → Status → Type 0
SaysOfBoth command options both before after s =
    (set other : Option (List ℕ)) → HaveBoth (most_of command) (first_asking command options) set other both
    → TwoSay command options set other before after s
