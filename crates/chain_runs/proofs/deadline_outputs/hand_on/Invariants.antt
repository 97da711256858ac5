use Rattle.std.proofs.Common.{◌≡◌, ◌++◌, take, drop, Some, None}
use Rattle.chain_runs.specs.DeadlineOutputs.{handed_on, last_by}
use Rattle.chain_runs.proofs.deadline_outputs.hand_on.Given as goal

abbrev pub invariant-loop-register : goal.invariant-loop-register
invariant-loop-register l = record {
  rest : drop l.register-index l.registers ≡ drop l.register-index l.fn.registers;
  passed : take l.register-index l.registers
      ++ handed_on l.interval l.offered (drop l.register-index l.fn.registers)
      ≡ handed_on l.interval (Some l.interval.start) l.fn.registers;
  output : last_by l.until l.output l.interval l.offered (drop l.register-index l.fn.registers)
      ≡ last_by l.until None l.interval (Some l.interval.start) l.fn.registers;
}
