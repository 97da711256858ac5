use Rattle.std.proofs.lemmas.Bool.{lt-ltb, le-ltb}
use Rattle.picture.proofs.why.put_why.Goals as goal

pub returns-then-spot-wait : goal.returns-then-spot-wait
returns-then-spot-wait c = rw (lt-ltb _ _ c.if-spot-wait.true)
    (rw (← c.blocking_lock-lock.ensures) c.put_blocked.ensures)

pub returns-else-spot-wait : goal.returns-else-spot-wait
returns-else-spot-wait c = rw (le-ltb _ _ c.if-spot-wait.false)
    (rw (← c.is_gathered-gathered.ensures) c.put_above.ensures)
