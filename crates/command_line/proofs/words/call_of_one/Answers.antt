use Rattle.std.proofs.Common.{◌≡◌, List, Option, None, codes, inr, refl, subst}
use Rattle.clap.specs.Words.{Row, first_of, found_of, rows_of}
use Rattle.command_line.specs.Calls.{Names, NamesFile, file_of}
use Rattle.command_line.specs.Commands.{by_file, input_of}
use Rattle.command_line.specs.declared.calls.Choice.{Choice}
use Rattle.command_line.specs.declared.calls.OfOne.{OfOne}
use Rattle.command_line.specs.declared.calls.OfOne.TheVariants.{Settings, Play}
use Rattle.command_line.specs.declared.calls.OfTwo.{OfTwo}
use Rattle.command_line.specs.declared.calls.Named.{Named}
use Rattle.command_line.specs.declared.calls.Verb.TheVariants.{One}
use Rattle.command_line.proofs.words.call_of_one.Goals as goal

-- the first input of a command that may have a second is a set
set_first : (o : OfOne) (rows : List Row) (c : OfTwo) (first second : Named)
    → NamesFile (by_file o) rows c second
    → Names (first_of (input_of (One o)) rows) first → Names (first_of (codes "SET") rows) first
set_first Settings rows c first second by names = names
set_first Play rows c first second by names = absurd by
set_first _ rows c first second by names = names

pub returns-in-Some : goal.returns-in-Some
returns-in-Some c name is names options =
    let rows = rows_of (found_of c.args.found.now) in
    let by : NamesFile (by_file c.args.command) rows c.in-Some.of_two c.in-Some.second =
    subst (λ (b : Option (Choice × OfTwo)). NamesFile b rows c.in-Some.of_two c.in-Some.second)
    c.by_file.ensures c.in-Some.ensures.some in
    (inr (c.args.command, is, by), set_first c.args.command _ _ _ _ by names, options)

pub returns-in-None : goal.returns-in-None
returns-in-None c name is names options =
    let none = subst (λ (b : Option (Choice × OfTwo)).
    file_of b (rows_of (found_of c.args.found.now)) ≡ None)
    c.by_file.ensures (c.in-None.ensures.none refl) in
    (is, none, names, options)
