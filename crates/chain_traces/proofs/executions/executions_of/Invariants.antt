use Rattle.std.proofs.Common.{◌≡◌, ◌++◌, [], length}
use Rattle.observed.specs.Pieces.{pieces_at}
use Rattle.chain_traces.specs.Executions.{executions_of}
use Rattle.chain_traces.proofs.executions.executions_of.Given as goal

abbrev pub invariant-loop-slice : goal.invariant-loop-slice
invariant-loop-slice l =
    l.executions.items ++ executions_of l.set l.jobs (pieces_at [] l.rest.homes.now l.rest.slices.now)
    ≡ executions_of l.set l.jobs (pieces_at [] l.housed.homes.now l.housed.slices.now)

abbrev pub decreases-loop-slice : goal.decreases-loop-slice
decreases-loop-slice l = length l.rest.homes.now
