use Rattle.std.proofs.Common.{◌∙◌, List, ap, refl}
use Rattle.std.specs.List.{list_any}
use Rattle.task_sheet.specs.Sheet.{CriticalSection}
use Rattle.task_sheet.proofs.Common.{Task}
use Rattle.observed.specs.Ranks.{is_ceiling_in}
use Rattle.observed.proofs.PlaceLaws.{sheet-at}
use Rattle.observed.proofs.ranks.has_ceiling.Goals as goal

pub returns : goal.returns
returns c =
    let U : List Task = c.args.set.now in
    let k = c.args.promise.now.task in
    let r : Task = c.index-sheets-promise.result in
    let sheet = sheet-at U c.sheets.result.now k k r c.sheets.ensures.same refl c.requires.task
    c.index-sheets-promise.is in
    c.is_ceiling_of.ensures
    ∙ ap (λ (ss : List CriticalSection). list_any (λ s. is_ceiling_in U c.args.promises.now
    c.args.number s) ss) (c.sections.ensures ∙ ap (λ (t : Task). t.sections) sheet)
