use Rattle.std.proofs.Common.{◌≡◌, take}
use Rattle.std.specs.List.{filter}
use Rattle.drawn_jobs.specs.Held.{is_held}
use Rattle.drawn_jobs.proofs.held.locks_held.Given as goal

abbrev pub invariant-loop-lock : goal.invariant-loop-lock
invariant-loop-lock l = l.kept.items ≡ filter (is_held l.fn.held) (take l.lock-index l.fn.locks)
