use Rattle.std.proofs.Common.{◌≡◌, ◌∙◌, List, sym, ap, subst}
use Rattle.std.proofs.lemmas.Option.{none-some}
use Rattle.task_sheet.proofs.Common.{Task, IsByRank, sheets_fault}
use Rattle.limits.specs.Written.{written}
use Rattle.limits.proofs.WrittenLaws.{IsByRank-written, no_fault-written}
use Rattle.limits.proofs.unpadded.written.Goals as goal

pub unreachable-requires : goal.unreachable-requires
unreachable-requires c =
    let items : c.in-Some.sheets.items ≡ written c.args.set.now =
    rw c.in-Some.is at c.in_ok-sheets.ensures.answer in
    none-some c.in-Err.fault.cause
    (sym (ap sheets_fault items ∙ no_fault-written c.args.set.now c.in_ok-sheets.ensures.kept)
    ∙ c.in-Err.ensures.err c.in_default-cause.not-OutOfMemory)

pub returns-in-Ok : goal.returns-in-Ok
returns-in-Ok c =
    let items : c.in-Some.sheets.items ≡ written c.args.set.now =
    rw c.in-Some.is at c.in_ok-sheets.ensures.answer in
    IsByRank-written c.args.set.now c.in-Ok.other c.in_ok-sheets.ensures.kept
    (subst (λ (xs : List Task). IsByRank xs c.in-Ok.other) items c.in-Ok.ensures.ok.1)
