-- Which tasks below a level execute, and for how long.
use Rattle.std.specs.Prelude.{◌≡◌, ℕ, zero, suc, ◌<◌, Bool, true, ◌==◌, ◌&&◌, ◌||◌, nat_lt, List, [], ◌∷◌, slice_index_or, if◌then◌else◌}
use Rattle.observed.specs.Promises.{no_promise}
use Rattle.observed.specs.Shares.{time_in}
use Rattle.observed.specs.declared.culprits.Culprit.{Culprit}
use Rattle.observed.specs.declared.pieces.Piece.{Piece}
use Rattle.observed.specs.declared.promises.Promise.{Promise}
use Rattle.observed.specs.declared.shares.Whom.TheVariants.{Level}

-- the task of a level, and for how long it executes between two times
abbrev pub culprit_at : List Promise → (from to : ℕ) → List Piece → ℕ → Culprit
culprit_at promises from to pieces level =
    record {
      level = level;
      name = (slice_index_or promises level no_promise).name;
      time = time_in (Level level) from to pieces;
    }

-- one more among others, before the first that executes for less
abbrev pub placed : Culprit → List Culprit → List Culprit
placed culprit [] = culprit ∷ []
placed culprit (c ∷ cs) =
    if nat_lt c.time culprit.time then culprit ∷ c ∷ cs else c ∷ placed culprit cs

-- the same, where it executes at all
abbrev pub with_culprit : Culprit → List Culprit → List Culprit
with_culprit culprit cs = if nat_lt 0 culprit.time then placed culprit cs else cs

-- the tasks below a level that execute between two times: who does so longest first, of equals the lowest
abbrev pub culprits_below : List Promise → (from to : ℕ) → List Piece → ℕ → List Culprit
culprits_below promises from to pieces zero = []
culprits_below promises from to pieces (suc level) =
    with_culprit (culprit_at promises from to pieces level)
    (culprits_below promises from to pieces level)

-- ---- what they are
-- it is a task below a level that executes between two times, with all that it does
pub record IsCulprit (promises : List Promise) (from to : ℕ) (pieces : List Piece) (level : ℕ)
    (culprit : Culprit) : Type 0 where
  pub below : culprit.level < level
  pub executes : 0 < culprit.time
  pub whole : culprit ≡ culprit_at promises from to pieces culprit.level

-- one comes before another: it executes for longer, or as long and stands lower
abbrev pub is_before : Culprit → Culprit → Bool
is_before c d = nat_lt d.time c.time || ((d.time == c.time) && nat_lt c.level d.level)

-- each comes before the next, the first behind one
abbrev pub are_behind : Culprit → List Culprit → Bool
are_behind c [] = true
are_behind c (d ∷ ds) = is_before c d && are_behind d ds

-- each comes before the next
abbrev pub are_sorted : List Culprit → Bool
are_sorted [] = true
are_sorted (c ∷ cs) = are_behind c cs
