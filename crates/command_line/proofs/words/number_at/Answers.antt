use Rattle.std.proofs.Common.{◌≡◌, ◌∙◌}
use Rattle.std.specs.Prelude.{Some}
use Rattle.clap.specs.Words.{found_of, one_text}
use Rattle.clap.proofs.WalkLemmas.{one_text-rows}
use Rattle.command_line.specs.Commands.{number_name}
use Rattle.command_line.proofs.words.number_at.Goals as goal

pub unreachable-requires : goal.unreachable-requires
unreachable-requires c =
    let said = c.requires in
    let text : one_text (found_of c.args.matches.now) (number_name c.args.command) ≡ Some said.0 =
    one_text-rows (found_of c.args.matches.now) (number_name c.args.command) ∙ said.2 in
    let read = rw (c.in-None.is, c.number.ensures.name) at c.get_one.ensures.value said.0 text in
    absurd (read.1.0 (said.3.0, said.3.1))

pub returns : goal.returns
returns c =
    let said = c.requires in
    let text : one_text (found_of c.args.matches.now) (number_name c.args.command) ≡ Some said.0 =
    one_text-rows (found_of c.args.matches.now) (number_name c.args.command) ∙ said.2 in
    let read = rw (c.in-Some.is, c.number.ensures.name) at c.get_one.ensures.value said.0 text in
    rw said.1 (said.3, read.0.1)
