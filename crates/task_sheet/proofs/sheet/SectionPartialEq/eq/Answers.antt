use Rattle.std.proofs.Common.{rules}
use Rattle.task_sheet.proofs.Equality.{same_section_told}
use Rattle.task_sheet.proofs.sheet.SectionPartialEq.eq.Goals as goal

pub returns-then-self-other-clause-same : goal.returns-then-self-other-clause-same
returns-then-self-other-clause-same c =
    same_section_told c.args.self.now c.args.other.now _ (search rules)

pub returns-else-self-other-clause-same : goal.returns-else-self-other-clause-same
returns-else-self-other-clause-same c =
    same_section_told c.args.self.now c.args.other.now _ (search rules)
