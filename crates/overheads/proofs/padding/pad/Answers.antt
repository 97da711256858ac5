use Rattle.std.proofs.Common.{◌≡◌, ◌∙◌, Some, None, ap, sym, subst, List}
use Rattle.std.proofs.lemmas.Option.{none-some}
use Rattle.task_sheet.proofs.Common.{Task, IsByRank, IsTaskSet, sheets_fault}
use Rattle.overheads.specs.Padding.{charged, padded_by}
use Rattle.overheads.proofs.PaddedSets.{set-padded_by}
use Rattle.overheads.proofs.ChargedSets.{IsByRank-charged, no_fault-charged}
use Rattle.overheads.proofs.padding.pad.Goals as goal

pub returns-in-Ok-clause-ok : goal.returns-in-Ok-clause-ok
returns-in-Ok-clause-ok c =
    let read = c.in_ok-sheets.ensures in
    let set : IsTaskSet (padded_by c.args.node c.args.set.now) =
    set-padded_by c.args.set.now c.args.node read.kept c.requires.limits.node read.ok.0 in
    let sheets = c.in_ok-sheets-2.ensures ∙ ap (charged c.args.interrupts.now) read.ok.1 in (
      read.ok.0,
      IsByRank-charged (padded_by c.args.node c.args.set.now) c.in-Ok.other
          c.args.interrupts.now set
          (subst (λ (xs : List Task). IsByRank xs c.in-Ok.other) sheets c.in-Ok.ensures.ok.1),
    )

-- the padded sheets are a set: the names are the same, and as many
pub unreachable-requires : goal.unreachable-requires
unreachable-requires c =
    let read = c.in_ok-sheets.ensures in
    let set : IsTaskSet (padded_by c.args.node c.args.set.now) =
    set-padded_by c.args.set.now c.args.node read.kept c.requires.limits.node read.ok.0 in
    let sheets = c.in_ok-sheets-2.ensures ∙ ap (charged c.args.interrupts.now) read.ok.1 in
    let fault : sheets_fault c.in_ok-sheets-2.sheets.items ≡ Some c.in-Err.fault.cause =
    c.in-Err.ensures.err c.in_default.not-OutOfMemory in
    let none : sheets_fault c.in_ok-sheets-2.sheets.items ≡ None = ap sheets_fault sheets
    ∙ no_fault-charged (padded_by c.args.node c.args.set.now) c.args.interrupts.now set in
    none-some c.in-Err.fault.cause (sym none ∙ fault)
