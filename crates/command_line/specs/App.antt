-- The command line of `desk`, as `clap` sees it.
use Rattle.std.specs.Prelude.{ℕ, List, [], ◌∷◌, Option, Some, codes, map, true}
use Rattle.clap.specs.Words.{App, Rule, Text, new_app, new_rule, with_rule, with_subcommand}
use Rattle.clap.specs.declared.builder.ArgAction.TheVariants.{Set, SetTrue}
use Rattle.clap.specs.declared.builder.value_parser.ValueParser.TheVariants.{Unsigned}
use Rattle.command_line.specs.Commands.{choice_id, commands, input_of, least_of, long_of, most_of, number_name, second_of, takes_of}
use Rattle.command_line.specs.declared.calls.Choice.{Choice}
use Rattle.command_line.specs.declared.calls.Takes.{Takes}
use Rattle.command_line.specs.declared.calls.Takes.TheVariants as takes
use Rattle.command_line.specs.declared.calls.Verb.{Verb}
use Rattle.command_line.specs.declared.calls.Verb.TheVariants.{One, Two, Number}

-- an input that has to be named
abbrev pub input_rule : Text → Rule
input_rule name = record (new_rule name) { required = true; action = Some Set }

-- a number that has to be named, from the least to the most
abbrev pub number_rule : (name : Text) (least most : ℕ) → Rule
number_rule name least most = record (input_rule name) { parser = Some (Unsigned least most) }

-- an option with a word
abbrev pub word_rule : (id : Text) → (long : Option Text) → Rule
word_rule id long = record (new_rule id) { long = long; action = Some Set; value_names = 1 }

-- an option that takes this
abbrev pub taking_rule : (id : Text) → (long : Option Text) → Takes → Rule
taking_rule id long takes.Word = word_rule id long
taking_rule id long (takes.Number least most) =
    record (word_rule id long) { parser = Some (Unsigned least most) }
taking_rule id long takes.Flag = record (new_rule id) { long = long; action = Some SetTrue }

-- an option
abbrev pub choice_rule : Choice → Rule
choice_rule c = taking_rule (choice_id c) (long_of c) (takes_of c)

-- a command with one input
abbrev pub input_app : (word input : Text) → App
input_app word input = with_rule (new_app word) (input_rule input)

-- a command with the word: its input, and besides a second input or a number
abbrev pub verb_app : Text → Verb → App
verb_app word (One c) = input_app word (input_of (One c))
verb_app word (Two c) = with_rule (input_app word (input_of (Two c))) (input_rule (second_of c))
verb_app word (Number c) =
    with_rule (input_app word (input_of (Number c)))
    (number_rule (number_name c) (least_of c) (most_of c))

-- a command with further options
abbrev pub with_choices : App → List Choice → App
with_choices a [] = a
with_choices a (c ∷ more) = with_choices (with_rule a (choice_rule c)) more

-- a command with all that it takes
abbrev pub command_app : Text → Verb → List Choice → App
command_app word v options = with_choices (verb_app word v) options

-- the program has a version, the words are all arguments, and one of them names a command
abbrev pub made_bare : App → App
made_bare a =
    record a { top = record a.top { has_version = true; no_binary_name = true; subcommand_required = true } }

-- the program without its commands
abbrev pub bare_app : App
bare_app = made_bare (new_app (codes "desk"))

-- a program with commands
abbrev pub with_commands : App → List App → App
with_commands a [] = a
with_commands a (command ∷ more) = with_commands (with_subcommand a command.top) more

-- the whole program
abbrev pub desk_app : App
desk_app = with_commands bare_app (map (λ row. command_app row.0 row.1 row.2) commands)
