use Rattle.std.proofs.Common.{◌≡◌, ◌++◌, ◌≤◌, ◌^◌, drop}
use Rattle.settings.specs.Numbering.{filled}
use Rattle.settings.proofs.numbering.filled.Given as goal

abbrev pub invariant-loop-place : goal.invariant-loop-place
invariant-loop-place l = record {
  so_far : l.numbers.items ++ filled l.room l.most l.below (drop l.place l.stay)
      ≡ filled l.room l.most l.from l.stay;
  below : l.below ≤ 2 ^ 32;
}
