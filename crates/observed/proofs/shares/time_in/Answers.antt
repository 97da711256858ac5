use Rattle.std.proofs.Common.{◌≡◌, ◌∙◌, ◌+◌, ◌∷◌, List, drop, ap, sym, arith}
use Rattle.std.proofs.lemmas.List.{drop_more}
use Rattle.observed.specs.Shares.{share_of, time_in}
use Rattle.observed.specs.declared.pieces.Piece.{Piece}
use Rattle.observed.proofs.shares.time_in.Goals as goal

pub loop-piece-preserved : goal.loop-piece-preserved
loop-piece-preserved c =
    let k = c.loop-piece.piece-index in
    let ps : List Piece = c.args.pieces.now in
    let p = c.piece-item.result in
    let time = time_in c.args.whom.now c.args.from c.args.to in
    let here : drop k ps ≡ p ∷ drop (k + 1) ps = drop_more ps k p c.loop-piece-test.true
    ∙ ap (λ (q : Piece). q ∷ drop (k + 1) ps) (sym c.piece-item.is) in
    let next : time (drop k ps)
    ≡ share_of c.args.whom.now c.args.from c.args.to p + time (drop (k + 1) ps) = ap time here in
    record {
      small = omega (arith, c.loop-piece.invariant.small, c.share_of-time.ensures.small);
      whole = omega (arith, c.loop-piece.invariant.whole, c.share_of-time.ensures.is, next);
    }
