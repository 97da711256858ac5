use Rattle.std.proofs.Common.{Err, List, refl, subst}
use Rattle.ceiling_kernel.specs.Runs.{Runs}
use Rattle.ceiling_kernel.specs.declared.trace.Release.{Release}
use Rattle.cut_runs.proofs.cut.run_cut.Goals as goal

pub returns-in-Ok-clause-run : goal.returns-in-Ok-clause-run
returns-in-Ok-clause-run c = record {
  shown = (refl, refl);
  ran = rw c.deref.ensures.value at c.in-Ok.ensures.trace;
}

pub returns-in-Ok-clause-tighter : goal.returns-in-Ok-clause-tighter
returns-in-Ok-clause-tighter c = rw c.deref.ensures.value at c.in-Ok.ensures.tighter

pub returns-in-Err-clause-run : goal.returns-in-Err-clause-run
returns-in-Err-clause-run c = c.after_fault.ensures.run c.args.until
    (subst (λ (x : List Release). Runs c.args.kernel.now x c.args.until (Err c.in-Err.fault))
    c.deref.ensures.value c.in-Err.ensures.trace)
