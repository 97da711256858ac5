use Rattle.release_list.proofs.TimeLaws.{ArePushed}
use Rattle.release_list.proofs.list.push_releases.Given as goal

abbrev pub invariant-loop-stream : goal.invariant-loop-stream
invariant-loop-stream l =
    ArePushed l.streams l.time l.until l.initial.releases.items l.releases.items l.stream-index
