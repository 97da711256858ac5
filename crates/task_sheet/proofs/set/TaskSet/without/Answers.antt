use Rattle.std.proofs.Common.{rules, ◌≡◌}
use Rattle.task_sheet.specs.TaskSet.{others_of}
use Rattle.task_sheet.proofs.SetLaws.{set_less}
use Rattle.task_sheet.proofs.set.TaskSet.without.Goals as goal

pub invariant_of-result : goal.invariant_of-result
invariant_of-result c =
    let items : c.in-Ok.sheets.items ≡ others_of c.self.inside.sheets.items c.args.name =
    search rules in
    rw items (set_less c.self.inside.sheets.items c.args.name c.self.invariant)
