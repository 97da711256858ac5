use Rattle.std.proofs.Common.{ap, arith}
use Rattle.observed.specs.declared.promises.Promise.{Promise}
use Rattle.observed.proofs.ranks.ceiling_in.Goals as goal

pub number_with-requires : goal.number_with-requires
number_with-requires c = omega (
  arith,
  c.requires c.loop-promise.promise-index c.promise-item.result c.loop-promise-test.true,
  ap (λ (p : Promise). p.task) c.promise-item.is,
)
