use Rattle.diff.proofs.NodeLaws.{node_is_silent}
use Rattle.diff.proofs.laws.node_changes_no_task.Goals as goal

pub returns : goal.returns
returns c = λ weighs t node other. node_is_silent t node other weighs
