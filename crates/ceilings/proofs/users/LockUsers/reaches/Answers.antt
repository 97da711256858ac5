use Rattle.std.proofs.Common.{rules, ◌≡◌, ◌∙◌}
use Rattle.ceilings.specs.Table.{some_uses}
use Rattle.ceilings.proofs.Reached.{reached}
use Rattle.ceilings.proofs.users.LockUsers.reaches.Goals as goal

pub returns-clause-reaches : goal.returns-clause-reaches
returns-clause-reaches c = λ U table.
    let noted : c.some_uses.result
    ≡ some_uses c.args.self.now c.args.members c.args.section.now.locks = search rules in
    noted ∙ reached U c.args.self.now table c.args.members c.args.section.now
