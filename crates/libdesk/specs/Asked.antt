-- What a command says of what it is given.
use Rattle.std.specs.Prelude.{◌≡◌, ◌⊎◌, ℕ, true, List, [], ◌∷◌, Option, Some, None, IsUtf8}
use Rattle.command_line.specs.Calls.{no_options}
use Rattle.command_line.specs.declared.calls.Options.{Options}
use Rattle.command_line.specs.declared.calls.OfTwo.TheVariants.{Draw}
use Rattle.desk_cli.specs.Commands.{OneSays, TwoSay}
use Rattle.answering.specs.Chosen.{asking_of, chain_of}
use Rattle.set_commands.specs.OnSet.{SaysOnSet}
use Rattle.set_commands.specs.Releases.{SaysList}
use Rattle.set_commands.specs.Worst.{WorstsSet}
use Rattle.two_input_commands.specs.Beside.{list_of, new_of}
use Rattle.answering.specs.declared.status.Status.{Status}
use Rattle.libdesk.specs.declared.asked.Asked.{Asked}
use Rattle.libdesk.specs.declared.asked.Asked.TheVariants.{One, Two, Releases, Worst, WorstChain, DrawChain}

-- a word asks about the task or the chain with a name: none where there is none; bytes that are no text are nobody's name
abbrev pub AsksAbout : (name : List ℕ) → Option (List ℕ) → Type 0
AsksAbout [] word = word ≡ None
AsksAbout (byte ∷ bytes) word =
    (word ≡ Some (byte ∷ bytes)) ⊎ (¬ IsUtf8 (byte ∷ bytes) × (word ≡ Some []))

-- the worst case of the task with a name, or that of the one that the set's verdict is about
abbrev pub SaysWorstAsked : (set name : List ℕ) → (before after : Option (List ℕ)) → Status → Type 0
SaysWorstAsked set name before after s =
    (word : Option (List ℕ)) × AsksAbout name word
    × SaysOnSet (WorstsSet None word) (asking_of no_options) (Some set) before after s

-- the run that the bound of the chain with a name describes; without a name the worst case that the set's verdict is about
abbrev pub SaysChainAsked : (set name : List ℕ) → (before after : Option (List ℕ)) → Status → Type 0
SaysChainAsked set name before after s =
    (word : Option (List ℕ)) × AsksAbout name word
    × SaysOnSet (WorstsSet word None) (asking_of no_options) (Some set) before after s

-- nothing is chosen but the chain with a name
abbrev pub ChoosesChain : (name : List ℕ) → Options → Type 0
ChoosesChain name options =
    AsksAbout name (chain_of options) × (options ≡ record no_options { chain = options.chain })

-- the picture of the run of a set and a list with the way along the chain with a name, where a text has the list in front of
-- its first byte 0 and the name behind it; without a name the picture alone
abbrev pub SaysWayAsked : (set both : List ℕ) → (before after : Option (List ℕ)) → Status → Type 0
SaysWayAsked set both before after s =
    (options : Options) × ChoosesChain (new_of both) options
    × TwoSay Draw options (Some set) (Some (list_of both)) before after s

-- nothing is chosen but that all is told
abbrev pub all_options : Options
all_options = record no_options { all = true }

-- what a writer held, what it holds then, and the status, are those of the command's answer
abbrev pub AskedSays : Asked → (before after : Option (List ℕ)) → Status → Type 0
AskedSays (One command input) before after s =
    OneSays command all_options (Some input.now) before after s
AskedSays (Two command first second) before after s =
    TwoSay command no_options (Some first.now) (Some second.now) before after s
AskedSays (Releases set until) before after s =
    SaysList (asking_of no_options) no_options.seed until (Some set.now) before after s
AskedSays (Worst set name) before after s = SaysWorstAsked set.now name.now before after s
AskedSays (WorstChain set name) before after s = SaysChainAsked set.now name.now before after s
AskedSays (DrawChain set both) before after s = SaysWayAsked set.now both.now before after s
