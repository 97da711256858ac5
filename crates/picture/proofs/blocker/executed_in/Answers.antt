use Rattle.std.proofs.Common.{ℕ, sym, ap, ◌∙◌}
use Rattle.ceiling_kernel.specs.declared.trace.Slice.{Slice}
use Rattle.frames.specs.Slices.{executed_in, executed_with}
use Rattle.frames.proofs.Executed.{executed_none, executed_more}
use Rattle.picture.proofs.blocker.executed_in.Goals as goal

pub loop-i-init : goal.loop-i-init
loop-i-init c = sym (executed_none c.args.slices.now c.args.job)

pub loop-i-preserved : goal.loop-i-preserved
loop-i-preserved c =
    let job = c.args.job in
    let slices = c.args.slices.now in
    let i = c.loop-i.i in
    c.executed_with-executed.ensures
    ∙ ap (λ (e : ℕ). executed_with job e c.slice_at.result) c.loop-i.invariant
    ∙ ap (λ (s : Slice). executed_with job (executed_in slices i job) s) c.slice_at.ensures
    ∙ sym (executed_more slices i job)
