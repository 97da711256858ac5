use Rattle.std.proofs.Common.{◌≡◌, ◌∙◌, ℕ, List, string_bytes, subst}
use Rattle.std.specs.Prelude.{IfOk}
use Rattle.picture.specs.Document.{signed}
use Rattle.picture.specs.Beside.{run_of}
use Rattle.picture.proofs.Documents.{beside_of, scene_same}
use Rattle.picture.proofs.beside.draw_beside.Goals as goal

pub returns : goal.returns
returns c =
    let until = c.max-until.ensures in
    let locks = c.in_ok-locks.ensures.value in
    let upper = c.chart_of-upper.ensures.scene
    ∙ scene_same (run_of c.args.old.now) (rw until at c.frame_beside-before.ensures)
    (c.deref-2.ensures.value ∙ locks) (c.deref.ensures.value ∙ c.in_ok-sides.ensures.upper) in
    let lower = c.chart_of-lower.ensures.scene
    ∙ scene_same (run_of c.args.new.now) (rw until at c.frame_beside-after.ensures)
    (c.deref-4.ensures.value ∙ locks) (c.deref-3.ensures.value ∙ c.in_ok-sides.ensures.lower) in
    let title = c.chart_of-lower.ensures.title ∙ c.as_str-2.ensures.value in
    let body = c.in_ok-body_beside.ensures
    ∙ beside_of upper lower title c.chart_of-upper.ensures.until c.chart_of-lower.ensures.until in
    subst (λ (text : List ℕ). IfOk c.signed.result (λ document. string_bytes document ≡ signed text)) body
    c.signed.ensures
