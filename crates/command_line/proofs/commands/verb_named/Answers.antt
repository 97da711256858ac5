use Rattle.std.proofs.Common.{◌∙◌}
use Rattle.command_line.proofs.Listed.{first_listed}
use Rattle.command_line.proofs.commands.verb_named.Goals as goal

pub returns : goal.returns
returns c = c.first_named.ensures
    ∙ first_listed c.args.word.now c.listed_commands.result.now c.listed_commands.ensures
