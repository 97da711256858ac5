use Rattle.std.proofs.Common.{◌≡◌, ◌+◌, ◌-◌}
use Rattle.owners.specs.Followers.{along}
use Rattle.owners.proofs.followers.along.Given as goal

abbrev pub invariant-loop-next : goal.invariant-loop-next
invariant-loop-next l = l.next + along l.owners l.name (l.place + l.next) (l.behind - l.next)
    ≡ along l.owners l.name l.place l.behind
