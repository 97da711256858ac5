use Rattle.std.proofs.Common.{◌≡◌, ◌∙◌, Option, Some, None, List, refl, sym, subst}
use Rattle.clap.specs.Words.{Row, Text, first_of, found_of}
use Rattle.clap.proofs.WalkLemmas.{first_value-rows}
use Rattle.command_line.specs.Calls.{Names, NamesFile, file_of}
use Rattle.command_line.specs.Commands.{choice_id}
use Rattle.command_line.specs.declared.calls.Choice.{Choice}
use Rattle.command_line.specs.declared.calls.OfTwo.{OfTwo}
use Rattle.command_line.specs.declared.calls.Named.{Named}
use Rattle.command_line.proofs.words.file_named.Goals as goal

-- the option's word names it
file_named : (by : Option (Choice × OfTwo)) (rows : List Row) (choice : Choice) (of_two : OfTwo)
    (named : Named) (word : Text)
    → Some (choice, of_two) ≡ by → Some word ≡ first_of (choice_id choice) rows
    → Names (Some word) named → NamesFile by rows of_two named
file_named by rows choice of_two named word is said names =
    subst (λ (b : Option (Choice × OfTwo)). NamesFile b rows of_two named) is
    (refl, word, sym said, names)

-- where the option says nothing there is none
none_named : (by : Option (Choice × OfTwo)) (rows : List Row) (choice : Choice) (of_two : OfTwo)
    → Some (choice, of_two) ≡ by → None ≡ first_of (choice_id choice) rows → file_of by rows ≡ None
none_named by rows choice of_two is said =
    subst (λ (b : Option (Choice × OfTwo)). file_of b rows ≡ None) is (sym said)

pub returns-in-None-clause-none : goal.returns-in-None-clause-none
returns-in-None-clause-none c _ =
    none_named _ _ c.in-Some.choice c.in-Some.of_two (sym c.in-Some.is)
    (rw (c.in-None.is, c.id.ensures) at c.get_str.ensures
    ∙ first_value-rows (found_of c.args.found.now) _)

pub returns-in-Some-text-clause-some : goal.returns-in-Some-text-clause-some
returns-in-Some-text-clause-some c =
    file_named _ _ c.in-Some.choice c.in-Some.of_two _ _ (sym c.in-Some.is)
    (rw (c.in-Some-text.is, c.id.ensures) at c.get_str.ensures
    ∙ first_value-rows (found_of c.args.found.now) _) c.in-Some-text.is-text

pub returns-in-Some-get_str-clause-some : goal.returns-in-Some-get_str-clause-some
returns-in-Some-get_str-clause-some c =
    file_named _ _ c.in-Some.choice c.in-Some.of_two _ _ (sym c.in-Some.is)
    (rw (c.in-Some-get_str.is, c.id.ensures) at c.get_str.ensures
    ∙ first_value-rows (found_of c.args.found.now) _) (refl, c.in-Some-get_str.not-text)
