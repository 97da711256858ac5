-- What the signs of a way mean: each stands where the ways have it, that of what stands longest or that of what comes next.
use Rattle.std.specs.Prelude.{ℕ, List, ◌++◌, codes}
use Rattle.chains.specs.declared.bounds.Writes.{Writes}
use Rattle.chains.specs.declared.bounds.Writes.TheVariants.{AtFinish, AtDeadline}
use Rattle.frames.specs.Signs.{sign_of, sign_text}
use Rattle.drawn_ways.specs.declared.signs.TheConstants.{ARRIVES, BEGINS, NEXT, STANDS, TO_DEADLINE, TO_FINISH, WAITS}

-- where a job reads
abbrev pub reads_sign : Writes → List ℕ
reads_sign AtFinish = BEGINS.now
reads_sign AtDeadline = ARRIVES.now

-- up to where it writes
abbrev pub writes_sign : Writes → List ℕ
writes_sign AtFinish = TO_FINISH.now
writes_sign AtDeadline = TO_DEADLINE.now

-- the signs that some ways have
abbrev pub signs_text : Writes → (ways : List ℕ) → List ℕ
signs_text writes ways =
    sign_of ways (codes "<path class=\"ya yd\"") (codes "<path class=\"yb yd\"") (reads_sign writes)
    ++ sign_of ways (codes "<path class=\"ya\"") (codes "<path class=\"yb\"") (writes_sign writes)
    ++ sign_of ways (codes "<path class=\"ya yw\"") (codes "<path class=\"yb yw\"") WAITS.now
    ++ sign_text ways (codes "<path class=\"ya ys\"") STANDS.now
    ++ sign_text ways (codes "<path class=\"yb") NEXT.now

-- ways, with what the signs in them mean
abbrev pub signed : Writes → (ways : List ℕ) → List ℕ
signed writes ways = ways ++ signs_text writes ways
