-- Where the rows of two runs stand side by side: the lanes of the processor first, then for each task a place of its row in
-- the one, and right below it a place of its row in the other.
use Rattle.std.specs.Prelude.{ℕ, Bool, Option, Some, None, List, [], ◌∷◌, ◌++◌, flat_map, map}
use Rattle.std.specs.Option.{is_none}
use Rattle.std.specs.List.{filter}
use Rattle.frames.specs.declared.places.TheConstants.{FREE}
use Rattle.frames.specs.declared.rows.Spot.{Spot}
use Rattle.frames.specs.declared.rows.TaskRow.{TaskRow}
use Rattle.frames.specs.PictureRows.{name_in, spot_named}

-- the rank of a row that is shown; none where a place is free
abbrev pub rank_of : Option Spot → ℕ
rank_of None = FREE
rank_of (Some s) = s.rank

-- the rank in another run of the row of the same task, if it is shown there
abbrev pub twin_of : (rows other : List TaskRow) → (shown : List ℕ) → (rank : ℕ) → ℕ
twin_of rows other shown rank = rank_of (spot_named other shown (name_in rows rank))

-- there is no such row
abbrev pub is_alone : (rows other : List TaskRow) → (shown : List ℕ) → (rank : ℕ) → Bool
is_alone rows other shown rank = is_none (spot_named other shown (name_in rows rank))

-- the ranks of the rows below those of another run: of the same tasks, and then of the tasks that it has no row of
abbrev pub below_of : (old : List TaskRow) → (old_shown : List ℕ) → (new : List TaskRow) → (new_shown : List ℕ) → List ℕ
below_of old old_shown new new_shown =
    map (twin_of old new new_shown) old_shown ++ filter (is_alone new old old_shown) new_shown

-- a place for each of some rows, with a free one below it
abbrev pub upper_places : (ranks : List ℕ) → List ℕ
upper_places ranks = FREE ∷ flat_map (λ rank. rank ∷ FREE ∷ []) ranks

-- a place for each, with a free one above it
abbrev pub lower_places : (ranks : List ℕ) → List ℕ
lower_places ranks = FREE ∷ flat_map (λ rank. FREE ∷ rank ∷ []) ranks
