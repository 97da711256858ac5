use Rattle.std.proofs.Common.{◌≡◌, ◌∙◌, ap, sym}
use Rattle.std.proofs.lemmas.Result.{IfOk-weaker}
use Rattle.chains.specs.Walks.{bound_by, steps_with}
use Rattle.least_chains.specs.LeastBound.{IsLeastBound}
use Rattle.least_chains.proofs.least.least_bound.Goals as goal

pub returns : goal.returns
returns c =
    let parts = c.deref.result.now in
    let tasks = c.args.tasks.now in
    IfOk-weaker c.bound_with.result
    (λ b. b ≡ bound_by (steps_with c.tasks.result.now c.args.offsets.now parts tasks))
    (IsLeastBound c.args.writes c.args.offsets.now c.args.set.now tasks)
    (λ b is. record {
      parts = parts;
      least = rw c.deref.ensures.value c.in_ok-parts.ensures;
      comes = ap (λ U. bound_by (steps_with U c.args.offsets.now parts tasks)) (sym c.tasks.ensures) ∙ sym is;
    })
    c.bound_with.ensures
