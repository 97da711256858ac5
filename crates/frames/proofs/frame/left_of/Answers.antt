use Rattle.std.proofs.Common.{◌∙◌, max, arith, refl}
use Rattle.frames.specs.Frame.{margin_of, widest_margin}
use Rattle.frames.proofs.Folds.{fold_more}
use Rattle.frames.proofs.frame.left_of.Goals as goal

pub loop-row-preserved : goal.loop-row-preserved
loop-row-preserved c = record {
  value = fold_more (widest_margin c.args.millis) (λ most row. max most (margin_of c.args.millis row))
      (λ most row rows. refl)
      c.args.rows.now c.loop-row.row-index c.row-item.result c.loop-row.left c.max-left.result
      c.loop-row-test.true c.row-item.is (omega (arith, c.margin_of.ensures, c.max-left.ensures))
      ∙ c.loop-row.invariant.value;
  within = omega (arith, c.margin_of.ensures, c.max-left.ensures, c.loop-row.invariant.within);
}
