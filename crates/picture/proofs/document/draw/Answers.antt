use Rattle.std.proofs.Common.{◌≡◌, ◌∙◌, ℕ, List, string_bytes, subst}
use Rattle.std.specs.Prelude.{IfOk}
use Rattle.picture.proofs.Documents.{document_of}
use Rattle.picture.proofs.document.draw.Goals as goal

pub returns : goal.returns
returns c =
    subst (λ (words : List ℕ). IfOk c.draw_chart.result (λ text. string_bytes text ≡ words))
    (document_of c.args.rows.now c.args.view.now c.args.until c.args.releases.now
    c.args.trace.now c.frame_of.result c.as_str.result.now c.deref-4.result.now
    c.deref-2.result.now c.deref-3.result.now c.deref-slices.result.now c.frame_of.ensures
    c.as_str.ensures.value (c.deref-4.ensures.value ∙ c.in_ok-locks.ensures.value)
    (c.deref-2.ensures.value ∙ rw c.deref.ensures.value at c.in_ok-shown.ensures.shown)
    c.deref-3.ensures.value c.deref-slices.ensures.value) c.draw_chart.ensures
