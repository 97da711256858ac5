use Rattle.std.proofs.Common.{◌∙◌, ◌++◌, ◌∷◌, [], ap, ap₂}
use Rattle.std.proofs.lemmas.List.{map-append, replicate-append-replicate}
use Rattle.std.specs.VecDeque.{deque_items}
use Rattle.ceiling_kernel.specs.Lists.{listed}
use Rattle.ceiling_kernel.proofs.lists.empty_lists.Goals as goal

pub loop-preserved : goal.loop-preserved
loop-preserved c = ap listed c.in_ok-push.ensures.items
    ∙ (map-append deque_items c.loop.lists.items (c.new.result ∷ [])
    ∙ (ap₂ (λ xs x. xs ++ x ∷ []) c.loop.invariant c.new.ensures.items
    ∙ replicate-append-replicate c.loop.counter 1 []))
