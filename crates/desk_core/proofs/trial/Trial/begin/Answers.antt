use Rattle.std.proofs.Common.{ap, subst, length, arith}
use Rattle.ceilings.specs.IsTableOf.{IsTableOf}
use Rattle.desk_core.proofs.ProgressLaws.{held-start}
use Rattle.desk_core.proofs.trial.Trial.begin.Goals as goal

pub invariant_of-result : goal.invariant_of-result
invariant_of-result c = record {
  tabled = subst (λ U. IsTableOf U c.in_ok-table.table) c.deref.ensures c.in_ok-table.ensures;
  held = rw (c.none.ensures, c.in_ok-climb.ensures, c.in_ok-clone.ensures.cases)
      (held-start c.args.set.value);
  empty = c.in_ok-room.ensures.items;
  room = omega (arith, c.in_ok-room.ensures.capacity, c.len.ensures.count, ap length c.deref-2.ensures);
}
