use Rattle.std.proofs.Common.{◌≡◌, List, IfOk, string_bytes, subst}
use Rattle.judge.specs.declared.rows.SettingRow.{SettingRow}
use Rattle.two_input_commands.specs.Draw.{picture_of}
use Rattle.two_input_commands.proofs.draw.drawing_text.Goals as goal

pub returns-in-Ran : goal.returns-in-Ran
returns-in-Ran c =
    let drawing = c.args.drawing.now in
    rw c.in-Ran.is (subst (λ (rows : List SettingRow). IfOk c.picture_of.result (λ t. string_bytes t
    ≡ picture_of c.args.tasks.now rows drawing.view c.in-Ran.run')) c.deref.ensures.value c.picture_of.ensures)
