use Rattle.std.proofs.Common.{arith}
use Rattle.task_sheet.proofs.DemandFits.{demand-fits}
use Rattle.task_sheet.proofs.laws.demand_fits.Goals as goal

pub returns : goal.returns
returns c = λ U i H t set lt le. omega (arith, demand-fits U set i H t lt le)
