use Rattle.std.proofs.Common.{◌∙◌, List, Ok, ap, inl, subst}
use Rattle.ceiling_kernel.specs.Runs.{Runs}
use Rattle.ceiling_kernel.specs.declared.accept.TheConstants.{HORIZON}
use Rattle.ceiling_kernel.specs.declared.trace.JobRecord.{JobRecord}
use Rattle.ceiling_kernel.specs.declared.trace.Release.{Release}
use Rattle.miss.specs.Going.{finish_of}
use Rattle.miss.proofs.going.done_later.Goals as goal

pub returns-in-Ok : goal.returns-in-Ok
returns-in-Ok c = inl (
  c.in-Ok.trace,
  subst (λ (rs : List Release). Runs c.args.kernel.now rs HORIZON (Ok c.in-Ok.trace))
      c.deref.ensures.value c.in-Ok.ensures.trace,
  c.finish_of.ensures ∙ ap (λ (jobs : List JobRecord). finish_of jobs c.args.miss.now.job)
      c.deref-in-Ok.ensures.value,
)
