use Rattle.std.proofs.Common.{rules}
use Rattle.book_lock.proofs.Receiving.{IsLatest-received}
use Rattle.book_lock.proofs.locked.Locked.settle.Goals as goal

pub invariant_of-pass-in-Ok-Decided : goal.invariant_of-pass-in-Ok-Decided
invariant_of-pass-in-Ok-Decided g c = (
  search rules,
  search rules,
  IsLatest-received _ _ _ c.reserve.new.self.items _ _ c.reserve.ensures.items
      c.push_reserved.ensures.items c.pass.invariant.2 (search rules),
)
