use Rattle.std.proofs.Common.{◌≡◌, ◌++◌, string_bytes}
use Rattle.diff.specs.Keys.{words_below}
use Rattle.diff.specs.ChangeLines.{rest_line}
use Rattle.diff.proofs.text.push_rests.Given as goal

abbrev pub invariant-loop-task : goal.invariant-loop-task
invariant-loop-task l =
    string_bytes l.text ≡ string_bytes l.fn.text
    ++ words_below l.task (rest_line l.effect l.weighs l.owners l.old.set.now l.old.placing.now l.new.set.now
    l.new.placing.now)
