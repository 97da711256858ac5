use Rattle.std.proofs.Common.{◌≡◌, drop}
use Rattle.task_sheet.specs.Indexes.{indexes_of}
use Rattle.cert_checker.specs.Work.{demand_from}
use Rattle.cert_checker.specs.Chains.{goes_past}
use Rattle.cert_checker.proofs.refuting.goes_past.Given as goal

abbrev pub invariant-loop-number : goal.invariant-loop-number
invariant-loop-number l =
    goes_past (demand_from l.set (indexes_of l.above) l.base) l.limit l.last
    (drop l.number-index l.numbers)
    ≡ goes_past (demand_from l.set (indexes_of l.above) l.base) l.limit l.first l.numbers
