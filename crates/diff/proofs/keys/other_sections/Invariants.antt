use Rattle.std.proofs.Common.{◌≡◌, false}
use Rattle.task_sheet.specs.Indexes.{some_below}
use Rattle.diff.specs.Keys.{other_section}
use Rattle.diff.proofs.keys.other_sections.Given as goal

abbrev pub invariant-loop-place : goal.invariant-loop-place
invariant-loop-place l = some_below l.place (other_section l.old l.new) ≡ false
