use Rattle.std.proofs.Common.{◌≡◌, ◌++◌, drop, string_bytes}
use Rattle.drawn_jobs.specs.Stripes.{lock_texts}
use Rattle.drawn_jobs.proofs.stripes.put_lock_texts.Given as goal

abbrev pub invariant-loop-i : goal.invariant-loop-i
invariant-loop-i l = string_bytes l.text ++ lock_texts l.frame l.bottom l.i (drop l.i l.locks)
    ≡ string_bytes l.fn.text ++ lock_texts l.frame l.bottom 0 l.locks
