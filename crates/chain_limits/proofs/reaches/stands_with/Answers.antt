use Rattle.std.proofs.Common.{sym, subst, List}
use Rattle.task_sheet.specs.Sheet.{Task}
use Rattle.ceilings.specs.IsTableOf.{IsTableOf}
use Rattle.limits.proofs.TableLaws.{IsTableOf-numbered}
use Rattle.chain_limits.proofs.reaches.stands_with.Goals as goal

pub of-same-requires : goal.of-same-requires
of-same-requires c =
    subst (λ (V : List Task). IsTableOf V c.table.result.now)
    (sym c.in_ok-other.ensures)
    (IsTableOf-numbered c.args.set.now c.args.task c.args.number c.args.value c.table.result.now
    (c.keeps_sections.ensures.0 c.if-keeps_sections.true) c.table.ensures)
