use Rattle.std.proofs.Common.{◌≡◌, take}
use Rattle.cut_runs.specs.Cut.{ready_before}
use Rattle.cut_runs.proofs.cut.ready_before.Given as goal

abbrev pub invariant-loop-release : goal.invariant-loop-release
invariant-loop-release l = l.kept.items ≡ ready_before l.time (take l.release-index l.releases)
