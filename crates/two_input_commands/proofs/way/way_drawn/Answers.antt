use Rattle.std.proofs.Common.{◌∙◌, List, ap, refl}
use Rattle.judge.specs.declared.rows.SettingRow.{SettingRow}
use Rattle.two_input_commands.specs.Way.{answer_drawn}
use Rattle.two_input_commands.proofs.way.way_drawn.Goals as goal

pub returns : goal.returns
returns c = record {
  answer = refl;
  view = c.in_ok-view.view;
  rows = c.in_ok-view.ensures;
  text = c.in_ok-text.ensures ∙ ap (λ (settings : List SettingRow). answer_drawn c.args.set.now settings
      c.in_ok-view.view c.args.chain.now c.args.drawing.answer) c.deref.ensures.value;
}
