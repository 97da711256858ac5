-- For how long some of the pieces of a trace execute between two times.
use Rattle.std.specs.Prelude.{ℕ, ◌+◌, ◌-◌, Bool, true, false, ◌==◌, ◌&&◌, nat_lt, min, max, List, [], ◌∷◌, Option, Some, None, is_none, if◌then◌else◌}
use Rattle.task_sheet.specs.Sheet.{same_bytes}
use Rattle.observed.specs.declared.pieces.Piece.{Piece}
use Rattle.observed.specs.declared.shares.Whom.{Whom}
use Rattle.observed.specs.declared.shares.Whom.TheVariants.{Job, Level, Below, Foreign, Thread, Anyone}

-- it is this number
abbrev pub is_at : ℕ → Option ℕ → Bool
is_at number None = false
is_at number (Some other) = other == number

-- it is a number below this one
abbrev pub is_below : ℕ → Option ℕ → Bool
is_below number None = false
is_below number (Some other) = nat_lt other number

-- the piece is counted: one of a job, of the task of a level, of the tasks below one, of threads that the set doesn't have, of the one of them with a name, or any
abbrev pub counts : Whom → Piece → Bool
counts (Job place) piece = is_at place piece.job
counts (Level level) piece = is_at level piece.level
counts (Below level) piece = is_below level piece.level
counts Foreign piece = is_none piece.level
counts (Thread name) piece = is_none piece.level && same_bytes piece.name name
counts Anyone piece = true

-- how much of a piece lies between two times
abbrev pub overlap : (from to : ℕ) → Piece → ℕ
overlap from to piece = min piece.stop to - max piece.start from

-- the same, where it is counted
abbrev pub share_of : Whom → (from to : ℕ) → Piece → ℕ
share_of whom from to piece = if counts whom piece then overlap from to piece else 0

-- for how long those who are counted execute between two times: their shares, added
abbrev pub time_in : Whom → (from to : ℕ) → List Piece → ℕ
time_in whom from to [] = 0
time_in whom from to (p ∷ pieces) = share_of whom from to p + time_in whom from to pieces
