use Rattle.std.proofs.Common.{◌≡◌, drop}
use Rattle.limit_lines.specs.LimitLines.{slack_in}
use Rattle.limit_lines.proofs.text.slack_in.Given as goal

abbrev pub invariant-loop-place : goal.invariant-loop-place
invariant-loop-place l =
    slack_in l.deadline l.places l.task ≡ slack_in l.deadline (drop l.place-index l.places) l.task
