use Rattle.std.proofs.Common.{List, ap, arith, length}
use Rattle.std.proofs.lemmas.List.Sums.{length-filter, count_by-le-length}
use Rattle.std.proofs.lemmas.Result.{IfOk-weaker}
use Rattle.drawn_jobs.specs.Held.{is_held}
use Rattle.frames.specs.declared.tones.Toned.{Toned}
use Rattle.drawn_jobs.proofs.held.held_beside.Goals as goal

pub returns-clause-few : goal.returns-clause-few
returns-clause-few c = IfOk-weaker c.locks_held.result _ _
    (λ held is. omega (
      arith,
      ap (λ (locks : List Toned). length locks) is,
      length-filter (is_held c.deref-2.result.now) c.args.new.now.locks.now,
      count_by-le-length (is_held c.deref-2.result.now) c.args.new.now.locks.now,
      c.args.new.now.some_locks,
    )) c.locks_held.ensures
