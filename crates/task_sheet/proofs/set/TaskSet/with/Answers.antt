use Rattle.std.proofs.Common.{rules, arith, ◌≡◌, ◌<◌, ◌++◌, ◌∷◌, [], false, length}
use Rattle.task_sheet.specs.TaskSet.{has_name}
use Rattle.task_sheet.proofs.SetLaws.{AreSheets, sheets_more}
use Rattle.task_sheet.proofs.set.TaskSet.with.Goals as goal

pub by_rank-requires : goal.by_rank-requires
by_rank-requires c =
    let new : has_name c.self.inside.sheets.items c.args.sheet.name ≡ false = search rules in
    let room : length c.self.inside.sheets.items < 32 = search (rules, arith) in
    let items : c.push.new.self.items ≡ c.self.inside.sheets.items ++ c.args.sheet ∷ [] =
    search rules in
    let more : AreSheets c.push.new.self.items =
    rw items (sheets_more c.self.inside.sheets.items c.args.sheet c.self.invariant
    c.name.ensures.valid new room) in
    record { valid = more.valid; distinct = more.distinct; few = more.few }
