use Rattle.std.proofs.Common.{◌≡◌, ◌∙◌, List, ap, None, unwrap_or, slice_get}
use Rattle.std.proofs.lemmas.Option.{unwrap_or-slice_get}
use Rattle.task_sheet.specs.Sheet.{Task, no_task}
use Rattle.cert_checker.proofs.ages.deadline_at.Goals as goal

-- past the end of a set stands no task
pub returns-in-None : goal.returns-in-None
returns-in-None c =
    let U : List Task = c.args.set.now in
    let past : None ≡ slice_get U c.args.task = c.in-None.ensures in
    ap (λ (t : Task). t.deadline)
    (ap (λ o. unwrap_or o no_task) past ∙ unwrap_or-slice_get U c.args.task no_task)
