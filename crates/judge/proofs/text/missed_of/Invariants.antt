use Rattle.std.proofs.Common.{◌≡◌, take}
use Rattle.task_sheet.specs.Indexes.{indexes_of}
use Rattle.judge.specs.JudgementLines.{missed_of}
use Rattle.judge.proofs.text.missed_of.Given as goal

abbrev pub invariant-loop-entry : goal.invariant-loop-entry
invariant-loop-entry l = indexes_of l.missed ≡ missed_of (take l.entry-index l.judged)
