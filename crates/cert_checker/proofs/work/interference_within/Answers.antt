use Rattle.std.proofs.Common.{◌≡◌, ◌+◌, ◌*◌, ℕ, cond, sym, ◌∙◌, ap, arith}
use Rattle.std.proofs.lemmas.Bool.{cond-true, cond-false}
use Rattle.task_sheet.proofs.Common.{no_task, task_at, indexes_of, interference_of}
use Rattle.task_sheet.proofs.Below.{sum_step}
use Rattle.task_sheet.proofs.Releases.{interference-fits}
use Rattle.task_sheet.proofs.TaskLaws.{valid_at}
use Rattle.std.proofs.lemmas.List.{get_or_read}
use Rattle.cert_checker.proofs.WorkSteps.{interference_from}
use Rattle.cert_checker.proofs.work.interference_within.Goals as goal
use Rattle.cert_checker.proofs.work.interference_within.Goals.{then-has, else-has}

pub loop-h-preserved : goal.loop-h-preserved
loop-h-preserved c =
    let U = c.sheets-sheet-items.result.now in
    let X = indexes_of c.args.above in
    let t = c.args.time in
    let h = c.loop-h.h in
    let x = c.sheet-item.result in
    let f : ℕ → ℕ = λ h. cond (X h) (interference_of (task_at U h) t) 0 in
    let is = get_or_read U h x c.loop-h-test.true c.sheet-item.is no_task in
    let kept = rw (sym c.sheets-sheet-items.ensures.same) at c.sheets-sheet-items.ensures.kept in
    let fits =
    interference-fits (task_at U h) t (valid_at U h kept c.loop-h-test.true) c.requires in
    elim c.if-has.branch [
      | then-has w ↦
          let more : w.releases_within.result * w.cost.result ≡ interference_of (task_at U h) t =
          interference_from x (task_at U h) t w.releases_within.result w.cost.result is
          w.releases_within.ensures w.cost.ensures in
          let here : f h ≡ interference_of (task_at U h) t = cond-true {A = ℕ} (X h)
          (interference_of (task_at U h) t) 0 (sym c.has.ensures ∙ w.if-has.true) in
          record {
            sum = sum_step h f c.loop-h.taken (interference_of (task_at U h) t) c.if-has.taken
                c.loop-h.invariant.sum here (w.taken-is ∙ ap (λ n. c.loop-h.taken + n) more);
            small = omega (arith, w.taken-is, more, fits, c.loop-h.invariant.small);
          }
      | else-has w ↦
          let here : f h ≡ 0 = cond-false {A = ℕ} (X h) (interference_of (task_at U h) t) 0
          (sym c.has.ensures ∙ w.if-has.false) in
          record {
            sum = sum_step h f c.loop-h.taken 0 c.if-has.taken c.loop-h.invariant.sum here
                (omega (arith, w.taken-is));
            small = omega (arith, w.taken-is, c.loop-h.invariant.small);
          }
    ]
