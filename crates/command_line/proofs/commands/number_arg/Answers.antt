use Rattle.std.proofs.Common.{◌≡◌, Some, rules}
use Rattle.clap.specs.declared.builder.value_parser.ValueParser.TheVariants.{Unsigned}
use Rattle.command_line.specs.Commands.{least_of, most_of}
use Rattle.command_line.proofs.commands.number_arg.Goals as goal

pub returns-clause-rule : goal.returns-clause-rule
returns-clause-rule c =
    let parser : c.value_parser-2.result.value_parser
    ≡ Some (Unsigned (least_of c.args.command) (most_of c.args.command)) = search rules in
    search rules
