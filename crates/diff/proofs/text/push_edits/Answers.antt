use Rattle.std.proofs.Common.{string_bytes}
use Rattle.diff.specs.ChangeLines.{edit_line}
use Rattle.diff.proofs.PushLaws.{pushed}
use Rattle.diff.proofs.text.push_edits.Goals as goal

pub loop-task-preserved : goal.loop-task-preserved
loop-task-preserved c =
    let line = edit_line c.args.weighs c.args.owners.now c.args.old.now.set.now
    c.args.old.now.placing.now c.args.new.now.set.now c.args.new.now.placing.now in
    pushed c.loop-task.task line (string_bytes c.args.text.now) (string_bytes c.loop-task.text)
    (string_bytes c.push_edit.new.text) c.loop-task.invariant c.in_ok-push_edit.ensures
