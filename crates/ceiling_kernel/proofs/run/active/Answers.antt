use Rattle.std.proofs.Common.{◌∙◌}
use Rattle.ceiling_kernel.proofs.TaskLaws.{active-is}
use Rattle.ceiling_kernel.proofs.run.active.Goals as goal

pub returns : goal.returns
returns c = λ node i is. c.max.ensures ∙ active-is node i c.args.executed c.held.result
    c.args.task.now is (rw c.deref.ensures.value at c.held.ensures)
