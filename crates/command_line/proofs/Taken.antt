-- What each command of the program has said where `clap` takes the words behind its own.
use Rattle.std.proofs.Common.{◌≡◌, List, [], ◌∷◌, Bool, true, false, ◌&&◌, refl}
use Rattle.std.specs.List.{list_all, list_any}
use Rattle.std.proofs.lemmas.Bool.{and_parts}
use Rattle.clap.specs.Faults.{level_fault}
use Rattle.clap.specs.Simple.{Shape, built_leaf, inherited, marked_built, with_leaf_noted}
use Rattle.clap.specs.Walk.{Rule, Text, nothing_held, rows_after}
use Rattle.clap.proofs.OnLiterals.{clap_on_literals}
use Rattle.command_line.specs.App.{command_app, desk_app}
use Rattle.command_line.specs.Calls.{AllMayNumber, MayTake, SayChoices, SaysNumber}
use Rattle.command_line.specs.Commands.{choice_id, commands, least_of, most_of, number_choices}
use Rattle.command_line.specs.Commands.{number_name, takes_of}
use Rattle.command_line.specs.declared.calls.Choice.{Choice}
use Rattle.command_line.specs.declared.calls.Takes.{Takes}
use Rattle.command_line.specs.declared.calls.Takes.TheVariants as takes
use Rattle.command_line.specs.declared.calls.Verb.{Verb}
use Rattle.command_line.specs.declared.calls.Verb.TheVariants.{One, Two, Number}
use Rattle.command_line.proofs.Numbers.{fits, is_wanted, level_has_said, level_may_say}

-- a command of the table, as `clap` builds it
abbrev pub shape : Text × Verb × List Choice → Shape
shape row = built_leaf
    (inherited (with_leaf_noted (marked_built desk_app.top)) (command_app row.0 row.1 row.2).top)

-- each rule leaves alone what an option with a number is given, but that option's
abbrev takes_fit : Text → Takes → List Rule → Bool
takes_fit name (takes.Number least most) rules = list_all (fits name least most) rules
takes_fit name _ rules = true

-- the same of the command's own number, which is wanted
abbrev number_fits : Verb → List Rule → Bool
number_fits (Number c) rules =
    list_all (fits (number_name c) (least_of c) (most_of c)) rules
    && list_any (is_wanted (number_name c) (least_of c) (most_of c)) rules
number_fits _ rules = true

abbrev pub row_fits : Text × Verb × List Choice → Bool
row_fits row =
    number_fits row.1 (shape row).rules
    && list_all (λ c. takes_fit (choice_id c) (takes_of c) (shape row).rules) number_choices

-- the table is so
pub all_fit : list_all row_fits commands ≡ true
unfolding clap_on_literals
all_fit = refl

may_take : (name : Text) (t : Takes) (s : Shape) → takes_fit name t s.rules ≡ true
    → (words : List Text)
    → level_fault s [] nothing_held words false [] ≡ []
    → MayTake name t (rows_after s.rules [] words)
may_take name (takes.Number least most) s fit words fine =
    level_may_say name least most s fit words fine
may_take name takes.Word s fit words fine = tt
may_take name takes.Flag s fit words fine = tt

may_choose : (choices : List Choice) (s : Shape)
    → list_all (λ c. takes_fit (choice_id c) (takes_of c) s.rules) choices ≡ true
    → (words : List Text) → level_fault s [] nothing_held words false [] ≡ []
    → AllMayNumber choices (rows_after s.rules [] words)
may_choose [] s fit words fine = tt
may_choose (c ∷ more) s fit words fine =
    let each = and_parts _ _ fit in
    (may_take (choice_id c) (takes_of c) s each.0 words fine, may_choose more s each.1 words fine)

says_number : (v : Verb) (s : Shape) → number_fits v s.rules ≡ true → (words : List Text)
    → level_fault s [] nothing_held words false [] ≡ [] → SaysNumber v (rows_after s.rules [] words)
says_number (One c) s fit words fine = tt
says_number (Two c) s fit words fine = tt
says_number (Number c) s fit words fine =
    let each = and_parts _ _ fit in
    level_has_said (number_name c) (least_of c) (most_of c) s each.0 each.1 words fine

-- where `clap` takes the words, they say the command's number, and of each option with a number one that it takes
pub all_taken : (row : Text × Verb × List Choice) → row_fits row ≡ true → (words : List Text)
    → level_fault (shape row) [] nothing_held words false [] ≡ []
    → SaysNumber row.1 (rows_after (shape row).rules [] words)
    × SayChoices (rows_after (shape row).rules [] words)
all_taken row fit words fine =
    let each = and_parts _ _ fit in (
      says_number row.1 (shape row) each.0 words fine,
      may_choose number_choices (shape row) each.1
          words fine,
    )
