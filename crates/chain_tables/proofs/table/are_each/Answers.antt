use Rattle.std.proofs.Common.{refl}
use Rattle.chain_tables.proofs.NumberLaws.{all-numbers-length}
use Rattle.chain_tables.proofs.table.are_each.Goals as goal

pub returns-in-Some : goal.returns-in-Some
returns-in-Some c =
    rw (c.in-Some.ensures.1, all-numbers-length c.in-Some.offsets.now c.in-Some.ensures.0) refl
