use Rattle.std.proofs.Common.{◌≡◌, rules}
use Rattle.std.proofs.lemmas.Result.{IfOk-weaker}
use Rattle.clap.specs.Words.{AddsArg, app_of, rule_of, with_rule}
use Rattle.command_line.proofs.commands.with_arg.Goals as goal

pub returns-clause-app : goal.returns-clause-app
returns-clause-app c =
    IfOk-weaker c.arg.result (AddsArg c.args.command c.args.arg)
    (λ r. app_of r ≡ with_rule (app_of c.args.command) (rule_of c.args.arg))
    (λ r told. told.shape (search rules)) c.arg.ensures
