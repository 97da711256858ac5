use Rattle.std.proofs.Common.{◌-◌}
use Rattle.chain_limits.proofs.ReachLaws.{IsSought}
use Rattle.chain_limits.proofs.reaches.reach_past.Given as goal

abbrev pub invariant-loop-missing : goal.invariant-loop-missing
invariant-loop-missing l = IsSought l.writes l.offsets l.order l.tasks l.limit l.set l.task l.number l.span.easiest
    l.span.length l.met l.missing l.is_bound

abbrev pub decreases-loop-missing : goal.decreases-loop-missing
decreases-loop-missing l = l.missing - l.met
