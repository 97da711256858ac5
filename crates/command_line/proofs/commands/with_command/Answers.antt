use Rattle.std.proofs.Common.{◌≡◌, rules}
use Rattle.std.proofs.lemmas.Result.{IfOk-weaker}
use Rattle.clap.specs.Words.{AddsSubcommand, app_of, with_subcommand}
use Rattle.command_line.proofs.commands.with_command.Goals as goal

pub returns-clause-app : goal.returns-clause-app
returns-clause-app c =
    IfOk-weaker c.subcommand.result (AddsSubcommand c.args.above c.args.command)
    (λ r. app_of r ≡ with_subcommand (app_of c.args.above) (app_of c.args.command).top)
    (λ r told. told.shape (search rules)) c.subcommand.ensures
