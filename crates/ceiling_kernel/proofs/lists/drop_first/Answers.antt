use Rattle.std.proofs.Common.{rules, ◌<◌, length, drop}
use Rattle.ceiling_kernel.proofs.ListsLaws.{changes}
use Rattle.ceiling_kernel.proofs.lists.drop_first.Goals as goal

pub returns : goal.returns
returns c =
    let lt : c.args.priority < length c.args.lists.now.items = search rules in
    changes c.args.lists.now.items c.args.priority c.index_mut.result.now c.pop_front.new.self
    (drop 1) lt c.index_mut.ensures.value c.pop_front.ensures.rest
