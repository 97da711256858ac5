use Rattle.std.proofs.Common.{◌≡◌, ◌≤◌, List, [], vec_len}
use Rattle.std.specs.Prelude.{IfOk, IfErr, vec_capacity}
use Rattle.std.specs.Vec.Iter.{into_iter_items, into_iter_len}
use Rattle.rushes.specs.RushFaults.{Each, IsEnd}
use Rattle.rushes.specs.TeamLines.{TeamLine, lines_of}
use Rattle.rushes.proofs.EachLaws.{WorkedOff}
use Rattle.rushes.proofs.teams.run_all.Given as goal

-- a team is started for each pass that was taken
abbrev pub invariant-loop-pass : goal.invariant-loop-pass
invariant-loop-pass g l = record {
  work : WorkedOff l.yielded (into_iter_items l.pass-iterator) l.fn.passes.items
      (into_iter_len l.pass-iterator) (vec_len l.all) (vec_capacity l.all);
  empty : l.room.items ≡ [];
  kept : vec_capacity l.all ≤ vec_capacity l.room;
  started :
      Each (λ started pass. (own : List TeamLine) × (own ≡ lines_of pass.team [] l.split)
      × IfOk started (λ h. (h.promise.lines.now ≡ own) × (h.promise.workers ≡ l.site.workers)
      × (h.promise.pass.value ≡ pass))
      × IfErr started (λ ended. IsEnd l.site.workers own pass ended))
      l.all.items l.yielded;
}
