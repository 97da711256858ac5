use Rattle.std.proofs.Common.{◌≡◌, ◌++◌, string_bytes}
use Rattle.diff.specs.Keys.{words_below}
use Rattle.diff.specs.ChangeLines.{removed_line}
use Rattle.diff.proofs.text.push_all_removed.Given as goal

abbrev pub invariant-loop-task : goal.invariant-loop-task
invariant-loop-task l =
    string_bytes l.text ≡ string_bytes l.fn.text
    ++ words_below l.task (removed_line l.owners l.old.set.now l.old.placing.now l.new.set.now)
