use Rattle.std.proofs.Common.{◌≡◌, ◌∙◌, ℕ, Some, cond, ◌+◌, slice_index_or}
use Rattle.std.proofs.lemmas.List.{get_or_default, take_all}
use Rattle.ceilings.proofs.Highest.{ceiling_more}
use Rattle.ceilings.proofs.users.LockUsers.ceiling.Goals as goal
use Rattle.ceilings.proofs.users.LockUsers.ceiling.Goals.{then-has, else-has}

pub loop-below-preserved : goal.loop-below-preserved
loop-below-preserved c = λ U table.
    let order = c.args.order.now in
    let k = c.loop-below.below in
    let i : ℕ = slice_index_or order k 0 in
    let next : c.if-has.highest ≡ cond c.has.result (Some (k + 1)) c.loop-below.highest =
    elim c.if-has.branch [
      | then-has w ↦ rw (w.if-has.true) w.highest-is
      | else-has w ↦ rw (w.if-has.false) w.highest-is
    ] in
    ceiling_more U c.args.lock order k i c.has.result c.loop-below.highest c.if-has.highest
    c.loop-below-test.true (get_or_default order k 0 i c.loop-below-test.true)
    (c.has.ensures ∙ c.users-users.ensures.uses U table i) (c.loop-below.invariant U table) next

pub returns : goal.returns
returns c = λ U table. rw (take_all c.loop-below.below c.args.order.now c.loop-below-test.false)
    at (c.loop-below.invariant U table)
