use Rattle.std.proofs.Common.{◌≡◌, Option, None, inl, refl, subst}
use Rattle.clap.specs.Words.{Text, first_of, found_of, rows_of}
use Rattle.command_line.specs.Calls.{Names, NamesFile, file_of}
use Rattle.command_line.specs.Commands.{beside, second_of}
use Rattle.command_line.specs.declared.calls.Choice.{Choice}
use Rattle.command_line.specs.declared.calls.OfTwo.{OfTwo}
use Rattle.command_line.proofs.words.call_of_two.Goals as goal

pub returns-in-Some : goal.returns-in-Some
returns-in-Some c name is names options =
    let rows = rows_of (found_of c.args.found.now) in
    let list : Names (first_of (second_of c.args.command) rows) c.named_at-second.result =
    subst (λ (id : Text). Names (first_of id rows) c.named_at-second.result) c.second.ensures
    c.named_at-second.ensures in
    let new : NamesFile (beside c.args.command) rows c.in-Some.of_two c.in-Some.new =
    subst (λ (b : Option (Choice × OfTwo)). NamesFile b rows c.in-Some.of_two c.in-Some.new)
    c.beside.ensures c.in-Some.ensures.some in
    ((c.args.command, is, list, new), names, options)

pub returns-in-None : goal.returns-in-None
returns-in-None c name is names options =
    let rows = rows_of (found_of c.args.found.now) in
    let list : Names (first_of (second_of c.args.command) rows) c.named_at-second.result =
    subst (λ (id : Text). Names (first_of id rows) c.named_at-second.result) c.second.ensures
    c.named_at-second.ensures in
    let none = subst (λ (b : Option (Choice × OfTwo)). file_of b rows ≡ None)
    c.beside.ensures (c.in-None.ensures.none refl) in
    (inl (is, none, list), names, options)
