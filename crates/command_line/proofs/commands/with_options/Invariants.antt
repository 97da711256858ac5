use Rattle.std.proofs.Common.{◌≡◌, drop, false}
use Rattle.clap.specs.Words.{app_of}
use Rattle.clap.specs.declared.builder.command.Command.TheViews.{out-Command as fields_of}
use Rattle.command_line.specs.App.{with_choices}
use Rattle.command_line.proofs.commands.with_options.Given as goal

abbrev pub invariant-loop-choice : goal.invariant-loop-choice
invariant-loop-choice l = record {
  app : with_choices (app_of l.made) (drop l.choice-index l.options)
      ≡ with_choices (app_of l.fn.command) l.options;
  local : (fields_of l.made).has_globals ≡ false;
}
