use Rattle.std.proofs.Common.{◌≡◌, ◌∙◌, List, ap, sym}
use Rattle.std.proofs.lemmas.Result.{IfOk-weaker}
use Rattle.chains.specs.Parts.{bound_in, order_of}
use Rattle.chains.specs.Walks.{bound_by, steps_with}
use Rattle.chains.specs.declared.bounds.Level.{Level}
use Rattle.least_chains.specs.LeastBound.{ArePassing}
use Rattle.chain_limits.proofs.OrderedLaws.{bound-strange, bound-told}
use Rattle.chain_limits.proofs.bound.bound_in_order.Goals as goal

pub returns-then-not-are_tasks : goal.returns-then-not-are_tasks
returns-then-not-are_tasks c levels are same =
    bound-strange c.args.writes c.args.set.now c.args.offsets.now c.args.tasks.now
    (sym c.are_tasks.ensures ∙ c.if-not-are_tasks.true) levels are

pub returns : goal.returns
returns c =
    let parts = c.deref.result.now in
    let tasks = c.args.tasks.now in
    let offsets = c.args.offsets.now in
    IfOk-weaker c.bound_with.result
    (λ b. b ≡ bound_by (steps_with c.tasks.result.now offsets parts tasks))
    (λ b. (levels : List Level) → ArePassing c.args.set.now levels → order_of levels ≡ c.args.order.now
    → b ≡ bound_in c.args.writes offsets c.args.set.now levels tasks)
    (λ b is levels are same. is
    ∙ (ap (λ U. bound_by (steps_with U offsets parts tasks)) c.tasks.ensures
    ∙ bound-told c.args.writes c.args.set.now c.args.order.now offsets tasks parts
    (sym c.are_tasks.ensures ∙ c.if-not-are_tasks.false) (rw c.deref.ensures.value c.in_ok-parts.ensures) levels are same))
    c.bound_with.ensures
