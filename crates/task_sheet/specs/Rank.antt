-- The rank of tasks: of equal weights the lesser name stands before.
use Rattle.std.specs.Prelude.{List}
use Rattle.std.specs.List.Sorted.{IsPermutation, IsStrictlySortedBy}
use Rattle.std.specs.Ordering.{nat_cmp, ordering_then}
use Rattle.std.specs.Cmp.Lexicographic.{slice_cmp}
use Rattle.std.specs.declared.cmp.Ordering.{Ordering}
use Rattle.task_sheet.specs.Sheet.{Task}

-- by weight, then by the bytes of the name
abbrev pub rank_cmp : Task → Task → Ordering
rank_cmp x y = ordering_then (nat_cmp x.weight y.weight) (slice_cmp nat_cmp x.name y.name)

-- the same sheets, by rank; there is one such list
pub record IsByRank (xs ys : List Task) : Type 0 where
  pub permutation : IsPermutation xs ys
  pub ranked : IsStrictlySortedBy rank_cmp ys
