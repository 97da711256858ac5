use Rattle.std.proofs.Common.{subst}
use Rattle.clap.specs.Words.{found_of, rows_of}
use Rattle.command_line.specs.Calls.{IsCommand}
use Rattle.command_line.proofs.Matches.{found_as}
use Rattle.command_line.proofs.words.call_of.Goals as goal

pub options_at-requires : goal.options_at-requires
options_at-requires c =
    (subst IsCommand
    (found_as c.args.matches.now c.in-Some.name.now (rows_of (found_of c.in-Some.found.now))
    c.in-Some.ensures.name c.in-Some.ensures.rows)
    c.requires).3

pub call_named-requires-clause-command : goal.call_named-requires-clause-command
call_named-requires-clause-command c =
    subst IsCommand
    (found_as c.args.matches.now c.in-Some.name.now (rows_of (found_of c.in-Some.found.now))
    c.in-Some.ensures.name c.in-Some.ensures.rows)
    c.requires
