use Rattle.std.proofs.Common.{◌≡◌}
use Rattle.std.specs.List.{filter, range_with_len}
use Rattle.frames.specs.PictureRows.{name_in}
use Rattle.frames.specs.View.{is_chosen}
use Rattle.frames.proofs.view.shown_of.Given as goal

abbrev pub invariant-loop-rank : goal.invariant-loop-rank
invariant-loop-rank l = l.shown.items
    ≡ filter (λ rank. is_chosen l.names l.releases (name_in l.rows rank)) (range_with_len 0 l.rank)
