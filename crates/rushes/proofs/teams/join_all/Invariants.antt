use Rattle.std.proofs.Common.{◌≡◌, vec_len}
use Rattle.std.specs.Prelude.{IfOk, IfErr, vec_capacity}
use Rattle.std.specs.Vec.Iter.{into_iter_items, into_iter_len}
use Rattle.rushes.specs.RushFaults.{Each, IsEnd}
use Rattle.rushes.proofs.EachLaws.{WorkedOff}
use Rattle.rushes.proofs.teams.join_all.Given as goal

-- those that were taken are joined
abbrev pub invariant-loop-started : goal.invariant-loop-started
invariant-loop-started g l = record {
  work : WorkedOff l.yielded (into_iter_items l.started-iterator) l.fn.all.items
      (into_iter_len l.started-iterator) (vec_len l.ends) (vec_capacity l.ends);
  joined : Each (λ started ended. IfOk started (λ h. IsEnd h.promise.workers h.promise.lines.now
      h.promise.pass.value ended) × IfErr started (λ over. ended ≡ over)) l.yielded l.ends.items;
}
