use Rattle.std.proofs.Common.{◌≡◌, ◌++◌, drop, string_bytes}
use Rattle.scripted.specs.Scripted.{put_lines}
use Rattle.scripted.proofs.text.push_tasks.Given as goal

abbrev pub invariant-loop-sheet : goal.invariant-loop-sheet
invariant-loop-sheet l = string_bytes l.text ++ put_lines l.draft (drop l.sheet-index l.sheets)
    ≡ string_bytes l.fn.text ++ put_lines l.draft l.sheets
