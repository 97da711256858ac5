use Rattle.std.proofs.Common.{◌≡◌, Some, ap, ◌∙◌, arith}
use Rattle.candidate_workers.specs.Claims.{count_of}
use Rattle.candidate_workers.specs.Seats.{seat_view}
use Rattle.threads_rows.proofs.ClaimLaws.{draws_early}
use Rattle.threads_rows.proofs.claims.draw.Goals as goal

pub returns-clause-open : goal.returns-clause-open
returns-clause-open g c = λ small.
    let same : count_of c.args.claims.now.table.shared.key ≡ count_of c.args.level.now =
    ap count_of c.requires.level in
    let is : c.claim-number.result ≡ c.args.want = c.if-number-want.false in
    let counted = c.requires.seat.0.1 in (
      c.claim-number.ensures.held.0 (omega arith)
          ∙ ap Some is,
      draws_early (seat_view c.args.seat.now) (seat_view c.claim-number.new.seat)
          c.claim-number.result c.claim-number.ensures.drawn (omega arith),
    )
