use Rattle.std.proofs.Common.{◌≡◌, ◌∙◌, ℕ, List, IfOk, ap, ap₂, subst}
use Rattle.ceiling_kernel.specs.declared.trace.Release.{Release}
use Rattle.frames.specs.Frame.{Frame}
use Rattle.frames.specs.View.{shown_of}
use Rattle.picture.specs.Document.{document}
use Rattle.drawn_ways.specs.WayTexts.{laid_over, way_of, way_text}
use Rattle.two_input_commands.proofs.way.rows_drawn.Goals as goal

pub returns : goal.returns
returns c =
    let rows = c.args.rows.now in
    let run = c.args.run.now in
    let shown = c.deref-4.ensures.value ∙ (c.in_ok-shown.ensures.shown
    ∙ ap₂ (λ (names : List (List ℕ)) (rs : List Release). shown_of names rs rows)
    c.deref-2.ensures.value c.deref-3.ensures.value) in
    let over = c.as_bytes-2.ensures.value ∙ (c.in_ok-over.ensures
    ∙ ap₂ (λ (f : Frame) (ranks : List ℕ). way_text f c.args.set.now rows ranks run.trace
    (way_of c.args.way.now)) c.frame_of-frame.ensures shown) in
    let drawn = c.as_bytes.ensures.value ∙ (c.in_ok-document.ensures
    ∙ ap (λ (rs : List Release). document rows c.args.view.now run.until rs run.trace)
    c.deref.ensures.value) in
    subst (λ (words : List ℕ). IfOk c.laid_over.result (λ text. text.items ≡ words))
    (ap₂ (λ (d o : List ℕ). laid_over d o) drawn over) c.laid_over.ensures
