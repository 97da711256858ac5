use Rattle.std.proofs.Common.{◌≡◌, List, length, take}
use Rattle.task_sheet.specs.Sheet.{CriticalSection}
use Rattle.lines.specs.Steps.{ahead}
use Rattle.scripts.specs.ScriptWords.{sections_in}
use Rattle.scripts.proofs.sections.sections_of.Given as goal

-- these were read so far, and the first of them are kept
abbrev pub invariant-loop-word : goal.invariant-loop-word
invariant-loop-word l = (front : List CriticalSection) × (l.sections.items ≡ take 9 front)
    × (ahead front (sections_in l.words) ≡ sections_in l.initial.words)

abbrev pub decreases-loop-word : goal.decreases-loop-word
decreases-loop-word l = length l.words
