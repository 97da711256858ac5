-- The call that words name.
use Rattle.std.specs.Prelude.{◌≡◌, ◌≢◌, ◌⊎◌, ◌≤◌, ℕ, List, [], ◌∷◌, Option, Some, None, Bool, true, false, not, ◌&&◌, ◌||◌, IfSome, codes, option_map}
use Rattle.std.specs.Str.{bytes_eq}
use Rattle.std.specs.Str.Parse.{digits_value, without_leading_plus}
use Rattle.clap.specs.Words.{HasKind, IsUnsignedIn, Row, Text, fault_of, first_of, one_of, subcommand_of}
use Rattle.command_line.specs.App.{desk_app}
use Rattle.command_line.specs.Commands.{choice_id, input_of, least_of, most_of, number_choices, number_name, second_of, takes_of, verb_of, beside, by_file}
use Rattle.command_line.specs.declared.calls.TheConstants.{MOST_PRIORITY, MOST_ROOM, MOST_SEED, MOST_TEAM, MOST_TOLERANCE, LATEST_END, LEAST_WIDTH, MOST_WIDTH, LEAST_PAPER, MOST_PAPER}
use Rattle.command_line.specs.declared.calls.Choice.{Choice}
use Rattle.command_line.specs.declared.calls.Choice.TheVariants.{All, Strict, Base, Room, LowerIsHigher, Seed, Tasks, Tolerance, Jobless, From, To, Width, Print, Team}
use Rattle.command_line.specs.declared.calls.Takes.{Takes}
use Rattle.command_line.specs.declared.calls.Takes.TheVariants as takes
use Rattle.command_line.specs.declared.calls.Preferred.{Preferred}
use Rattle.command_line.specs.declared.calls.Preferred.TheVariants.{Weight, Deadline, Chains}
use Rattle.command_line.specs.declared.calls.Options.{Options as OptionsData}
use Rattle.command_line.specs.declared.calls.Named.{Named}
use Rattle.command_line.specs.declared.calls.Named.TheVariants.{Standard, File}
use Rattle.command_line.specs.declared.calls.Input.{Input}
use Rattle.command_line.specs.declared.calls.Input.TheVariants as input
use Rattle.command_line.specs.declared.calls.OfOne.{OfOne}
use Rattle.command_line.specs.declared.calls.OfOne.TheVariants.{Admit}
use Rattle.command_line.specs.declared.calls.OfTwo.{OfTwo}
use Rattle.command_line.specs.declared.calls.OfNumber.{OfNumber}
use Rattle.command_line.specs.declared.calls.Verb.{Verb}
use Rattle.command_line.specs.declared.calls.Verb.TheVariants as verb
use Rattle.command_line.specs.declared.calls.Call.{Call}
use Rattle.command_line.specs.declared.calls.Call.TheVariants.{One, Two, Number}
use Rattle.command_line.specs.declared.words.WordsFault.{WordsFault}
use Rattle.command_line.specs.declared.words.WordsFault.TheVariants as fault

-- what a word names: `-` names standard input, as no word does
abbrev pub Names : Option Text → Named → Type 0
Names None named = named ≡ Standard
Names (Some word) Standard = word ≡ codes "-"
Names (Some word) (File path) = (path.now ≡ word) × (word ≢ codes "-")

-- the input that a word names
abbrev pub NamesInput : Option Text → Input → Type 0
NamesInput word (input.One named) = Names word named
NamesInput word (input.Both list new) = ⊥

-- the text of a word is a number from the least to the most, and this is the number
abbrev pub CountsWithin : (least most : ℕ) → Option Text → ℕ → Type 0
CountsWithin least most None number = ⊥
CountsWithin least most (Some text) number =
    IsUnsignedIn least most text × (number ≡ digits_value 10 (without_leading_plus text))

-- the text of a word is a number that the command takes, and this is the number
abbrev pub Counts : OfNumber → Option Text → ℕ → Type 0
Counts c text number = CountsWithin (least_of c) (most_of c) text number

-- the words of a command say under this name a number from the least to the most, and `clap` gives it as it was
-- written
abbrev pub SaysWithin : (name : Text) (least most : ℕ) → List Row → Type 0
SaysWithin name least most rows =
    (text : Text) × (first_of name rows ≡ Some text) × (one_of name rows ≡ Some text)
    × IsUnsignedIn least most text

-- or they say nothing
abbrev pub MaySayWithin : (name : Text) (least most : ℕ) → List Row → Type 0
MaySayWithin name least most rows =
    ((first_of name rows ≡ None) × (one_of name rows ≡ None)) ⊎ SaysWithin name least most rows

-- the words of the command say a number
abbrev pub TakesNumber : OfNumber → List Row → Type 0
TakesNumber c rows = SaysWithin (number_name c) (least_of c) (most_of c) rows

-- the words of the command say its number, where it takes one
abbrev pub SaysNumber : Verb → List Row → Type 0
SaysNumber (verb.Number c) rows = TakesNumber c rows
SaysNumber _ rows = Unit {0}

-- what an option is given is a number that it takes, where it takes one
abbrev pub MayTake : Text → Takes → List Row → Type 0
MayTake name (takes.Number least most) rows = MaySayWithin name least most rows
MayTake name _ rows = Unit {0}

-- the same of an option by its name
abbrev pub MayNumber : Choice → List Row → Type 0
MayNumber c rows = MayTake (choice_id c) (takes_of c) rows

-- the same of each option of a list
abbrev pub AllMayNumber : List Choice → List Row → Type 0
AllMayNumber [] rows = Unit {0}
AllMayNumber (c ∷ more) rows = MayNumber c rows × AllMayNumber more rows

-- each option with a number is given one that it takes, or none
abbrev pub SayChoices : List Row → Type 0
SayChoices rows = AllMayNumber number_choices rows

-- a command of the program is named
abbrev pub IsCommand : Option (Text × List Row) → Type 0
IsCommand None = ⊥
IsCommand (Some found) =
    (v : Verb) × (verb_of found.0 ≡ Some v) × SaysNumber v found.1 × SayChoices found.1

-- what `--prefer` says, where it is given
abbrev pub Prefers : List Row → Option Preferred → Type 0
Prefers rows None = first_of (codes "prefer") rows ≡ None
Prefers rows (Some Weight) = first_of (codes "prefer") rows ≡ Some (codes "weight")
Prefers rows (Some Deadline) = first_of (codes "prefer") rows ≡ Some (codes "deadline")
Prefers rows (Some Chains) = first_of (codes "prefer") rows ≡ Some (codes "chains")

-- the word of the command's `--prefer` is another
abbrev pub PrefersOther : List Row → Type 0
PrefersOther rows =
    (word : Text) × (first_of (codes "prefer") rows ≡ Some word) × (word ≢ codes "weight")
    × (word ≢ codes "deadline") × (word ≢ codes "chains")

-- this is the number of a text, where there is one, and it is from the least to the most
abbrev pub IsCounted : (least most : ℕ) → Option Text → Option ℕ → Type 0
IsCounted least most text None = text ≡ None
IsCounted least most text (Some number) = CountsWithin least most text number

-- the same, where a number is taken
abbrev pub IsTaken : Takes → Option Text → Option ℕ → Type 0
IsTaken (takes.Number least most) text number = IsCounted least most text number
IsTaken _ text number = Unit {0}

-- the number that an option is given
abbrev pub IsNumberOf : Choice → List Row → Option ℕ → Type 0
IsNumberOf c rows number = IsTaken (takes_of c) (first_of (choice_id c) rows) number

-- whether a flag is given, for which `clap` notes `true`
abbrev pub Flags : Choice → List Row → Bool → Type 0
Flags c rows true = first_of (choice_id c) rows ≡ Some (codes "true")
Flags c rows false = first_of (choice_id c) rows ≢ Some (codes "true")

-- what the words of a command choose
pub record AreOptions (given : List Row) (options : OptionsData) : Type 0 where
  pub prefer : Prefers given options.prefer
  pub is_strict : Flags Strict given options.is_strict
  pub task : option_map (λ s. s.now) options.task ≡ first_of (codes "task") given
  pub chain : option_map (λ s. s.now) options.chain ≡ first_of (codes "chain") given
  pub all : Flags All given options.all
  pub sort : option_map (λ s. s.now) options.sort ≡ first_of (codes "sort") given
  pub base : IsNumberOf Base given options.base
  pub room : IsNumberOf Room given options.room
  pub lower_is_higher : Flags LowerIsHigher given options.lower_is_higher
  pub seed : IsNumberOf Seed given options.seed
  pub by_task : Flags Tasks given options.by_task
  pub tolerance : IsNumberOf Tolerance given options.tolerance
  pub jobless : Flags Jobless given options.jobless
  pub from : IsNumberOf From given options.from
  pub to : IsNumberOf To given options.to
  pub width : IsNumberOf Width given options.width
  pub print : IsNumberOf Print given options.print
  pub title : option_map (λ s. s.now) options.title ≡ first_of (codes "title") given
  pub rows : option_map (λ s. s.now) options.rows ≡ first_of (codes "rows") given
  pub team : IsNumberOf Team given options.team

-- nothing is chosen
abbrev pub no_options : OptionsData
no_options =
    record {
      prefer = None;
      is_strict = false;
      task = None;
      chain = None;
      all = false;
      sort = None;
      base = None;
      room = None;
      lower_is_higher = false;
      seed = None;
      by_task = false;
      tolerance = None;
      jobless = false;
      from = None;
      to = None;
      width = None;
      print = None;
      title = None;
      rows = None;
      team = None;
    }

-- the numbers that are chosen are ones that their options take
abbrev pub HaveNumbers : OptionsData → Type 0
HaveNumbers options =
    IfSome options.base (λ base. (1 ≤ base) × (base ≤ MOST_PRIORITY))
    × IfSome options.room (λ room. (0 ≤ room) × (room ≤ MOST_ROOM))
    × IfSome options.seed (λ seed. (0 ≤ seed) × (seed ≤ MOST_SEED))
    × IfSome options.tolerance (λ tolerance. (0 ≤ tolerance) × (tolerance ≤ MOST_TOLERANCE))
    × IfSome options.from (λ from. (0 ≤ from) × (from ≤ LATEST_END))
    × IfSome options.to (λ to. (0 ≤ to) × (to ≤ LATEST_END))
    × IfSome options.width (λ width. (LEAST_WIDTH ≤ width) × (width ≤ MOST_WIDTH))
    × IfSome options.print (λ print. (LEAST_PAPER ≤ print) × (print ≤ MOST_PAPER))
    × IfSome options.team (λ team. (1 ≤ team) × (team ≤ MOST_TEAM))

-- the word of an option that makes a command one of two inputs
abbrev pub file_of : Option (Choice × OfTwo) → List Row → Option Text
file_of None rows = None
file_of (Some by) rows = first_of (choice_id by.0) rows

-- that option is given, makes this command of two inputs, and names this
abbrev pub NamesFile : Option (Choice × OfTwo) → List Row → OfTwo → Named → Type 0
NamesFile None rows c named = ⊥
NamesFile (Some by) rows c named =
    (by.1 ≡ c) × (word : Text) × (first_of (choice_id by.0) rows ≡ Some word)
    × Names (Some word) named

-- a command of two inputs and its second one: they are of a verb of two; or an option gives one of one input a second; or
-- one names a set beside the second of a verb of two
abbrev pub IsOfTwo : (word : Text) → List Row → OfTwo → Input → Type 0
IsOfTwo word rows c (input.One second) =
    ((verb_of word ≡ Some (verb.Two c)) × (file_of (beside c) rows ≡ None)
    × Names (first_of (second_of c) rows) second)
    ⊎ ((o : OfOne) × (verb_of word ≡ Some (verb.One o)) × NamesFile (by_file o) rows c second)
IsOfTwo word rows c (input.Both list new) =
    (o : OfTwo) × (verb_of word ≡ Some (verb.Two o)) × Names (first_of (second_of o) rows) list
    × NamesFile (beside o) rows c new

-- the call that a command names, with what was found of its arguments
abbrev pub IsCall : Option (Text × List Row) → Call → Type 0
IsCall None call = ⊥
IsCall (Some found) (One c input options) =
    (verb_of found.0 ≡ Some (verb.One c)) × (file_of (by_file c) found.1 ≡ None)
    × NamesInput (first_of (input_of (verb.One c)) found.1) input × AreOptions found.1 options
IsCall (Some found) (Two c first second options) =
    IsOfTwo found.0 found.1 c second × NamesInput (first_of (codes "SET") found.1) first
    × AreOptions found.1 options
IsCall (Some found) (Number c input number options) =
    (verb_of found.0 ≡ Some (verb.Number c))
    × NamesInput (first_of (input_of (verb.Number c)) found.1) input
    × Counts c (first_of (number_name c) found.1) number × AreOptions found.1 options

-- no words call `admit` of standard input; else they call what `clap`'s matches of them name
abbrev pub Calls : List Text → Call → Type 0
Calls [] call = call ≡ One Admit (input.One Standard) no_options
Calls (word ∷ words) call = IsCall (subcommand_of desk_app (word ∷ words)) call

-- standard input is named
abbrev pub is_standard : Named → Bool
is_standard Standard = true
is_standard (File path) = false

-- an input has standard input in it
abbrev pub has_standard : Input → Bool
has_standard (input.One named) = is_standard named
has_standard (input.Both list new) = is_standard list || is_standard new

-- it has it twice
abbrev pub has_twice : Input → Bool
has_twice (input.One named) = false
has_twice (input.Both list new) = is_standard list && is_standard new

-- the words of the call name standard input twice
abbrev pub is_twice : Call → Bool
is_twice (Two c first second options) =
    (has_standard first && has_standard second) || has_twice second
is_twice _ = false

-- a word is another than that of the order by slack
abbrev pub is_other_sort : Option Text → Bool
is_other_sort None = false
is_other_sort (Some word) = not (bytes_eq word (codes "slack"))

-- the call asks for another order of lines
abbrev pub sorts_other : Call → Bool
sorts_other (One c input options) = is_other_sort (option_map (λ s. s.now) options.sort)
sorts_other (Two c first second options) = is_other_sort (option_map (λ s. s.now) options.sort)
sorts_other (Number c input number options) = is_other_sort (option_map (λ s. s.now) options.sort)

-- the numbers of a call are ones that its command and its options take
abbrev pub HasNumber : Call → Type 0
HasNumber (One c input options) = HaveNumbers options
HasNumber (Two c first second options) = HaveNumbers options
HasNumber (Number c input number options) =
    HaveNumbers options × (least_of c ≤ number) × (number ≤ most_of c)

-- there are no words, or `clap` takes them
abbrev pub AreTakenWords : List Text → Type 0
AreTakenWords words = (words ≡ []) ⊎ (fault_of desk_app words ≡ [])

-- `clap` gives an error of a kind that the words have, or one out of memory; or it takes them, and they prefer
-- an order that isn't there, or their call sorts by another word than `slack`, or names standard input twice
abbrev pub IsWordsFault : List Text → WordsFault → Type 0
IsWordsFault words (fault.Clap error) = (words ≢ []) × HasKind (fault_of desk_app words) error
IsWordsFault words fault.NoSuchPreference =
    AreTakenWords words × IfSome (subcommand_of desk_app words) (λ found. PrefersOther found.1)
IsWordsFault words fault.NoSuchSort =
    AreTakenWords words × (call : Call) × Calls words call × (sorts_other call ≡ true)
IsWordsFault words fault.InputTwice =
    AreTakenWords words × (call : Call) × Calls words call × (is_twice call ≡ true)
