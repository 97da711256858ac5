use Rattle.std.proofs.Common.{◌*◌, ◌+◌}
use Rattle.frames.specs.Places.{below_of, lower_places, upper_places}
use Rattle.picture.proofs.RowsBeside.{spot_parts, spot_from, in_upper, in_lower, in_below, row_within}
use Rattle.picture.proofs.laws.rows_are_beside.Goals as goal

pub returns : goal.returns
returns c = λ old new old_shown new_shown name s t distinct few fewer within is other.
    let above = spot_parts old old_shown name s is in
    let below = spot_parts new new_shown name t other in
    let ranks = below_of old old_shown new new_shown in (
      spot_from old (upper_places old_shown) name s.rank (2 * s.k + 1) above.0
          (in_upper old_shown s.rank s.k (row_within old name s.rank above.0 few) above.1),
      spot_from new (lower_places ranks) name t.rank (2 * s.k + 2) below.0
          (in_lower ranks t.rank s.k (row_within new name t.rank below.0 fewer)
          (in_below old new old_shown new_shown name s t distinct fewer within is other)),
    )
