use Rattle.std.proofs.Common.{rules, arith, ◌<◌, ◌∷◌, length, drop}
use Rattle.ceiling_kernel.specs.Lists.{listed, list_at}
use Rattle.ceiling_kernel.proofs.ListsLaws.{changes, count_kept}
use Rattle.ceiling_kernel.proofs.lists.move_first.Goals as goal

pub returns-then-new-old : goal.returns-then-new-old
returns-then-new-old c =
    let before = c.args.lists.now in
    let after = c.drop_first.new.lists.items in
    let count = count_kept before.items after c.args.old
    (drop 1 (list_at (listed before.items) c.args.old)) c.drop_first.ensures in
    let lt : c.args.new < length after = omega (arith, count, before.ok.0, c.requires.new) in
    rw (
      changes after c.args.new c.index_mut.result.now c.push_front.new.self (λ t. c.args.task ∷ t)
          lt c.index_mut.ensures.value c.in_ok-push_front.ensures.items,
      c.drop_first.ensures,
    )
    (search rules)
