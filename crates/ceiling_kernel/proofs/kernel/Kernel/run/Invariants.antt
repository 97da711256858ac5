use Rattle.std.proofs.Common.{◌≤◌}
use Rattle.ceiling_kernel.specs.States.{IsRunning, ahead_of}
use Rattle.ceiling_kernel.proofs.kernel.Kernel.run.Given as goal

abbrev pub invariant-loop-simulation : goal.invariant-loop-simulation
invariant-loop-simulation l = record {
  running : IsRunning l.self l.agenda.releases.now l.agenda.turns.now l.simulation;
  bounded : l.simulation.now ≤ l.until;
}

abbrev pub decreases-loop-simulation : goal.decreases-loop-simulation
decreases-loop-simulation l = ahead_of l.agenda.turns.now l.until l.simulation
