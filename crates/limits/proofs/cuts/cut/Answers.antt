use Rattle.std.proofs.Common.{◌∙◌, List, sym, ap, subst}
use Rattle.std.proofs.lemmas.Option.{none-some}
use Rattle.task_sheet.proofs.Common.{Task, IsByRank, sheets_fault}
use Rattle.limits.specs.Cuts.{none_follows}
use Rattle.limits.proofs.CutLaws.{IsByRank-cut, no_fault-cut}
use Rattle.limits.proofs.cuts.cut.Goals as goal

pub unreachable-requires : goal.unreachable-requires
unreachable-requires c =
    none-some c.in-Err.fault.cause
    (sym (ap sheets_fault c.in_ok-sheets.ensures
    ∙ no_fault-cut none_follows c.args.lock c.args.most c.args.set.now c.sheets-own.ensures.kept)
    ∙ c.in-Err.ensures.err c.in_default.not-OutOfMemory)

pub returns-in-Ok : goal.returns-in-Ok
returns-in-Ok c =
    IsByRank-cut none_follows c.args.lock c.args.most c.args.set.now c.in-Ok.other
    c.sheets-own.ensures.kept
    (subst (λ (xs : List Task). IsByRank xs c.in-Ok.other) c.in_ok-sheets.ensures c.in-Ok.ensures.ok.1)
