use Rattle.std.proofs.Common.{◌∙◌, ◌+◌, ap, drop, map, sym}
use Rattle.std.proofs.lemmas.List.{at_drop_more}
use Rattle.clap.specs.Words.{app_of}
use Rattle.command_line.specs.App.{with_commands}
use Rattle.command_line.proofs.Listed.{app_of_listed, desk_listed}
use Rattle.command_line.proofs.commands.desk_command.Goals as goal

pub loop-listed-init : goal.loop-listed-init
loop-listed-init c = record {
  app =
      ap (λ a. with_commands a (map app_of_listed c.listed_commands-listed-items.result.now))
      c.in_ok-desk.ensures.app
      ∙ desk_listed c.listed_commands-listed-items.result.now
      c.listed_commands-listed-items.ensures;
  local = c.in_ok-desk.ensures.local;
}

pub loop-listed-preserved : goal.loop-listed-preserved
loop-listed-preserved c =
    let above = app_of c.loop-listed.desk in
    let rows = c.listed_commands-listed-items.result.now in
    let later = map app_of_listed (drop (c.loop-listed.listed-index + 1) rows) in
    record {
      app =
          ap (λ a. with_commands a later) c.in_ok-desk-2.ensures.app
          ∙ sym (at_drop_more (λ more. with_commands above (map app_of_listed more)) rows
          c.loop-listed.listed-index _ c.loop-listed-test.true)
          ∙ c.loop-listed.invariant.app;
      local = c.in_ok-desk-2.ensures.local;
    }
