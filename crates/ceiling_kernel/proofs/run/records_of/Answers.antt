use Rattle.std.proofs.Common.{ℕ, List, ◌++◌, ◌∷◌, [], Option, ap₂, sym, ◌∙◌}
use Rattle.ceiling_kernel.specs.declared.trace.JobRecord.{JobRecord}
use Rattle.ceiling_kernel.proofs.Common.{jobs_of}
use Rattle.ceiling_kernel.proofs.ReleaseLaws.{records-next}
use Rattle.ceiling_kernel.proofs.run.records_of.Goals as goal

pub loop-k-preserved : goal.loop-k-preserved
loop-k-preserved c = λ node t are.
    let next = records-next node (jobs_of node.tasks c.args.releases.now) t c.args.releases.now
    c.loop-k.k c.index-releases-k.result c.loop-k-test.true c.index-releases-k.is in
    let finish = are.each c.loop-k.k c.loop-k-test.true in
    let with_one : List JobRecord → Option ℕ → List JobRecord =
    λ rows f. rows ++ record {
      name = c.index-releases-k.result.name;
      release =
          c.index-releases-k.result.time;
      finish = f;
    } ∷ [] in
    c.in_ok-push.ensures.items ∙ (ap₂ with_one (c.loop-k.invariant node t are) finish ∙ sym next)
