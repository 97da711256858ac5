use Rattle.std.proofs.Common.{◌*◌, ap, arith}
use Rattle.cert_checker.proofs.WorkSteps.{comes-fit}
use Rattle.cert_checker.proofs.work.interrupt_within.Goals as goal

pub returns-clause-fits : goal.returns-clause-fits
returns-clause-fits c =
    let x = c.args.interrupt.now in
    omega (
      arith,
      ap (λ n. n * x.cost) c.div_ceil.ensures,
      comes-fit c.args.time x
          c.requires.interrupt c.requires.time,
    )
