use Rattle.std.proofs.Common.{◌≡◌, drop, false, map}
use Rattle.clap.specs.Words.{app_of}
use Rattle.clap.specs.declared.builder.command.Command.TheViews.{out-Command as fields_of}
use Rattle.command_line.specs.App.{desk_app, with_commands}
use Rattle.command_line.proofs.Listed.{app_of_listed}
use Rattle.command_line.proofs.commands.desk_command.Given as goal

abbrev pub invariant-loop-listed : goal.invariant-loop-listed
invariant-loop-listed l = record {
  app : with_commands (app_of l.desk) (map app_of_listed (drop l.listed-index l.listed-items))
      ≡ desk_app;
  local : (fields_of l.desk).has_globals ≡ false;
}
