-- The rows of the code's list of commands, as the definitions have them.
use Rattle.std.proofs.Common.{◌≡◌, ◌∙◌, ap, refl, List, [], ◌∷◌, Option, Some, None, map}
use Rattle.std.proofs.Common.{option_map}
use Rattle.std.specs.List.{find}
use Rattle.std.specs.Str.{bytes_eq}
use Rattle.clap.specs.Words.{App, Text}
use Rattle.clap.proofs.WalkLemmas.{find-map}
use Rattle.command_line.specs.App.{bare_app, command_app, desk_app, with_commands}
use Rattle.command_line.specs.Commands.{commands, verb_of}
use Rattle.command_line.specs.declared.calls.Choice.{Choice}
use Rattle.command_line.specs.declared.calls.Verb.{Verb}
use Rattle.command_line.specs.declared.commands.Listed.{Listed}

abbrev pub app_of_listed : Listed → App
app_of_listed listed = command_app listed.word.now listed.verb listed.options.now

abbrev pub row_of : Listed → Text × Verb × List Choice
row_of listed = (listed.word.now, listed.verb, listed.options.now)

verb_of_row : (found : Option Listed)
    → option_map (λ l. l.verb) found ≡ option_map (λ row. row.1) (option_map row_of found)
verb_of_row None = refl
verb_of_row (Some l) = refl

-- the first row with a word has its command
pub first_listed : (word : Text) (rows : List Listed) → map row_of rows ≡ commands
    → option_map (λ l. l.verb) (find (λ l. bytes_eq l.word.now word) rows) ≡ verb_of word
unfolding verb_of
first_listed word rows same =
    verb_of_row (find (λ l. bytes_eq l.word.now word) rows)
    ∙ ap (option_map (λ row. row.1)) (find-map (λ row. bytes_eq row.0 word) row_of rows
    ∙ ap (find (λ row. bytes_eq row.0 word)) same)

apps_of : (rows : List Listed)
    → map app_of_listed rows ≡ map (λ row. command_app row.0 row.1 row.2) (map row_of rows)
apps_of [] = refl
apps_of (l ∷ rows) = ap (λ apps. app_of_listed l ∷ apps) (apps_of rows)

-- the program has the commands of the list
pub desk_listed : (rows : List Listed) → map row_of rows ≡ commands
    → with_commands bare_app (map app_of_listed rows) ≡ desk_app
desk_listed rows same = ap (with_commands bare_app)
    (apps_of rows ∙ ap (map (λ row. command_app row.0 row.1 row.2)) same)
