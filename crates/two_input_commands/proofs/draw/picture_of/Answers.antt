use Rattle.std.proofs.Common.{◌≡◌, ◌∙◌, List, IfOk, string_bytes, subst}
use Rattle.ceiling_kernel.specs.declared.trace.Release.{Release}
use Rattle.picture.specs.Document.{document}
use Rattle.frames.specs.declared.rows.TaskRow.{TaskRow}
use Rattle.two_input_commands.proofs.draw.picture_of.Goals as goal

pub returns : goal.returns
returns c =
    let v = c.args.view.now in
    let run = c.args.run.now in
    let listed = subst (λ (rs : List Release). IfOk c.draw.result (λ text. string_bytes text
    ≡ document c.deref.result.now v run.until rs run.trace)) c.deref-2.ensures.value c.draw.ensures in
    subst (λ (rows : List TaskRow). IfOk c.draw.result (λ text. string_bytes text
    ≡ document rows v run.until run.releases.items run.trace))
    (c.deref.ensures.value ∙ c.in_ok-rows.ensures.rows) listed
