use Rattle.std.proofs.Common.{◌∙◌, ◌+◌, ap, drop, sym}
use Rattle.std.proofs.lemmas.List.{at_drop_more}
use Rattle.clap.specs.Words.{app_of, with_rule}
use Rattle.command_line.specs.App.{with_choices}
use Rattle.command_line.proofs.commands.with_options.Goals as goal

pub loop-choice-preserved : goal.loop-choice-preserved
loop-choice-preserved c =
    let above = app_of c.loop-choice.made in
    let options = c.args.options.now in
    let later = drop (c.loop-choice.choice-index + 1) options in
    record {
      app =
          ap (λ a. with_choices a later)
          (c.in_ok-made.ensures.app ∙ ap (with_rule above) c.choice_arg.ensures.rule)
          ∙ sym (at_drop_more (with_choices above) options c.loop-choice.choice-index _
          c.loop-choice-test.true)
          ∙ c.loop-choice.invariant.app;
      local = c.in_ok-made.ensures.local;
    }
