use Rattle.std.proofs.Common.{◌∙◌, sym}
use Rattle.std.proofs.lemmas.Bool.{le-leb}
use Rattle.drawn_jobs.proofs.lane.put_lane_label.Goals as goal

pub returns-then-has_room : goal.returns-then-has_room
returns-then-has_room c =
    let room = rw (c.saturating_sub-wide.ensures, c.name-name.ensures.same) at c.has_room.ensures in
    rw (sym room ∙ c.if-has_room.true) (rw c.name-name.ensures.same at c.writeln.ensures.bytes)

pub returns-then-wide-level_room : goal.returns-then-wide-level_room
returns-then-wide-level_room c =
    let room = rw (c.saturating_sub-wide.ensures, c.name-name.ensures.same) at c.has_room.ensures in
    let wide = rw (c.level_room.ensures, c.saturating_sub-wide.ensures) at c.if-wide-level_room.true in
    rw (sym room ∙ c.if-has_room.false, le-leb _ _ wide)
    c.writeln-then-wide-level_room.ensures.bytes
