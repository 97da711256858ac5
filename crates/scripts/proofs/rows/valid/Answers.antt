use Rattle.std.proofs.Common.{List, ap, sym, ◌∙◌}
use Rattle.task_sheet.proofs.Common.{CriticalSection, task_of, sheet_fault}
use Rattle.scripts.proofs.KeptSections.{first_sections}
use Rattle.scripts.proofs.rows.valid.Goals as goal

pub returns-clause-gives : goal.returns-clause-gives
returns-clause-gives c = λ all kept.
    let v = c.args.values in
    let fault = sym (first_sections v.name v.weight v.period v.deadline v.cost all)
    ∙ ap (λ (xs : List CriticalSection). sheet_fault
    (task_of v.name v.weight v.period v.deadline v.cost xs)) (sym kept)
    ∙ c.in-Err.ensures.err in
    rw fault
