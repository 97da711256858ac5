use Rattle.std.proofs.Common.{string_bytes}
use Rattle.diff.specs.ChangeLines.{rest_line}
use Rattle.diff.proofs.PushLaws.{pushed}
use Rattle.diff.proofs.text.push_rests.Goals as goal

pub loop-task-preserved : goal.loop-task-preserved
loop-task-preserved c =
    let line = rest_line c.args.effect c.args.weighs c.args.owners.now c.args.old.now.set.now
    c.args.old.now.placing.now c.args.new.now.set.now c.args.new.now.placing.now in
    pushed c.loop-task.task line (string_bytes c.args.text.now) (string_bytes c.loop-task.text)
    (string_bytes c.push_rest.new.text) c.loop-task.invariant c.in_ok-push_rest.ensures
