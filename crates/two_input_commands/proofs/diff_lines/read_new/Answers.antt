use Rattle.std.proofs.Common.{◌≡◌, Option, ◌∙◌, ap}
use Rattle.task_sheet.specs.declared.prefer.Preference.{Preference}
use Rattle.preferences.specs.ReadsPreferred.{chosen}
use Rattle.two_input_commands.proofs.diff_lines.read_new.Goals as goal

pub returns-in-Ok : goal.returns-in-Ok
returns-in-Ok c =
    let read = c.in-Ok.ensures in
    let choice = c.in-Ok.new.choice in
    let taken : c.preference-by.result ≡ chosen c.args.asking.prefer read.0.prefers =
    c.preference-by.ensures
    ∙ ap (λ (o : Option Preference). chosen o choice.own) read.2
    ∙ ap (λ (o : Option Preference). chosen c.args.asking.prefer o) read.3 in
    ((read.0, read.1, read.4, taken, read.5, (c.in-Ok.new.chains.items, read.6)), read.6)
