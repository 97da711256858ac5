use Rattle.std.proofs.Common.{◌≡◌, ◌+◌, ℕ, List, [], take, drop}
use Rattle.std.specs.List.{All}
use Rattle.std.specs.Ordering.{nat_cmp}
use Rattle.std.specs.Cmp.Lexicographic.{slice_cmp}
use Rattle.std.specs.BTreeSet.{contains}
use Rattle.task_sheet.proofs.Common.{IsValidSheet, first_repeat, has_name, AreDistinct, same_name}
use Rattle.task_sheet.proofs.set.first_repeat.Given as goal

abbrev pub invariant-loop-i : goal.invariant-loop-i
invariant-loop-i l = record {
  valid : All IsValidSheet (take l.i l.sheets);
  distinct : AreDistinct same_name (take l.i l.sheets);
  same : first_repeat (take l.i l.sheets) (l.i + 1) (drop l.i l.sheets)
      ≡ first_repeat [] 1 l.sheets;
  names : (q : List ℕ) → contains (slice_cmp nat_cmp) l.names q ≡ has_name (take l.i l.sheets) q;
}
