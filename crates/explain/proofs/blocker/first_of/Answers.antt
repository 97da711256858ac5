use Rattle.std.proofs.Common.{◌≡◌, ◌∙◌, List, slice_get, Some, refl, ap, sym}
use Rattle.std.proofs.lemmas.Option.{slice_get_read}
use Rattle.task_sheet.proofs.Common.{CriticalSection, Task, task_at, indexes_of}
use Rattle.task_sheet.proofs.TaskLaws.{task_read}
use Rattle.explain.proofs.BlockerLaws.{HasNoneBefore-more, no_lock-reaches}
use Rattle.explain.proofs.blocker.first_of.Goals as goal
use Rattle.explain.proofs.blocker.first_of.Goals.{then-section-len+in_default, else-section-len}

pub loop-place-preserved : goal.loop-place-preserved
loop-place-preserved c =
    let U = c.args.set.now in
    let X = indexes_of c.args.members in
    let task = c.args.task in
    let place = c.loop-place.place in
    let s = c.section-item.result in
    let read = task_read U c.sheets.result.now task c.index-sheets-task.result c.sheets.ensures.same
    c.requires c.index-sheets-task.is in
    let sections = c.sections-section-items.ensures ∙ ap (λ (t : Task). t.sections) read in
    let at : slice_get (task_at U task).sections place ≡ Some s =
    ap (λ (xs : List CriticalSection). slice_get xs place) (sym sections)
    ∙ slice_get_read c.sections-section-items.result.now _ place s refl c.loop-place-test.true
    c.section-item.is in
    HasNoneBefore-more U X task c.args.len place s c.loop-place.invariant at
    (elim c.if-section-len.branch [
      | then-section-len+in_default w ↦ λ reached.
          absurd (no_lock-reaches U X s (sym w.reached_lock.ensures ∙ w.in_default.is) reached)
      | else-section-len w ↦ λ reached e. w.if-section-len.false
          (ap (λ (x : CriticalSection). x.len) c.section.view_is ∙ e)
    ])
