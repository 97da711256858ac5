use Rattle.std.proofs.Common.{◌≡◌, ◌++◌, drop, length, string_bytes}
use Rattle.drawn_jobs.specs.Stripes.{stripes_from}
use Rattle.drawn_jobs.proofs.stripes.put_stripes.Given as goal

abbrev pub invariant-loop-i : goal.invariant-loop-i
invariant-loop-i l = string_bytes l.text
    ++ stripes_from l.locks l.x l.right l.k (length l.names) l.i (drop l.i l.names)
    ≡ string_bytes l.fn.text ++ stripes_from l.locks l.x l.right l.k (length l.names) 0 l.names
