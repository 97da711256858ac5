use Rattle.std.proofs.Common.{rules}
use Rattle.std.specs.List.Sorted.{IsSortedBy}
use Rattle.std.specs.Ordering.{is_lt}
use Rattle.std.proofs.lemmas.List.Sorted.{answers_always}
use Rattle.task_sheet.proofs.Common.{rank_cmp, IsTaskSet}
use Rattle.task_sheet.proofs.SetLaws.{sorted_set}
use Rattle.task_sheet.proofs.set.by_rank.Goals as goal

sorted : (c : goal.After-sort_unstable_by_key) → IsTaskSet c.sort_unstable_by_key.new.self.items
sorted c =
    let up : IsSortedBy (λ x y. is_lt (rank_cmp x y)) c.sort_unstable_by_key.new.self.items =
    c.sort_unstable_by_key.ensures.sorted (λ s. (s.weight, s.name))
    (answers_always _ _ _ (λ f a r g h. search rules)) in
    sorted_set c.args.sheets.items _ c.requires.valid c.requires.distinct c.requires.few
    c.sort_unstable_by_key.ensures.permutation up

pub invariant_of-result : goal.invariant_of-result
invariant_of-result c = sorted c

pub returns : goal.returns
returns c =
    record { permutation = c.sort_unstable_by_key.ensures.permutation; ranked = (sorted c).ranked }
