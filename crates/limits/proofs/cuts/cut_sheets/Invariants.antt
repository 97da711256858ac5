use Rattle.std.proofs.Common.{◌≡◌, take, map}
use Rattle.limits.specs.Cuts.{cut_task, none_follows}
use Rattle.limits.proofs.cuts.cut_sheets.Given as goal

abbrev pub invariant-loop-sheet : goal.invariant-loop-sheet
invariant-loop-sheet l =
    l.others.items ≡ map (cut_task none_follows l.lock l.most) (take l.sheet-index l.sheets)
