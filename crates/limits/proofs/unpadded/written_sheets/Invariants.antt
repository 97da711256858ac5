use Rattle.std.proofs.Common.{◌≡◌, take, map}
use Rattle.limits.specs.Written.{written_task}
use Rattle.limits.proofs.unpadded.written_sheets.Given as goal

abbrev pub invariant-loop-sheet : goal.invariant-loop-sheet
invariant-loop-sheet l = record {
  items : l.others.items ≡ map written_task (take l.sheet-index l.sheets);
}
