use Rattle.std.proofs.Common.{rules, ◌<◌, ◌++◌, ◌∷◌, [], length}
use Rattle.ceiling_kernel.proofs.ListsLaws.{changes}
use Rattle.ceiling_kernel.proofs.lists.enqueue.Goals as goal

pub returns : goal.returns
returns c =
    let lt : c.args.priority < length c.args.lists.now.items = search rules in
    changes c.args.lists.now.items c.args.priority c.index_mut.result.now c.push_back.new.self
    (λ t. t ++ c.args.task ∷ []) lt c.index_mut.ensures.value c.in_ok-push_back.ensures.items
