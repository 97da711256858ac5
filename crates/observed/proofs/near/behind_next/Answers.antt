use Rattle.std.proofs.Common.{◌∙◌, ap, arith}
use Rattle.observed.specs.Near.{behind}
use Rattle.observed.specs.Pieces.{pieces_at}
use Rattle.observed.proofs.NearLaws.{behind-behind}
use Rattle.observed.proofs.near.behind_next.Goals as goal

pub returns-else-time-reached : goal.returns-else-time-reached
returns-else-time-reached c =
    c.behind-else-time-reached.ensures ∙ ap (behind c.args.time) c.requires
    ∙ behind-behind c.args.reached c.args.time
    (pieces_at c.args.promises.now c.args.housed.homes.now c.args.housed.slices.now)
    (omega (arith, c.if-time-reached.false))
