use Rattle.std.proofs.Common.{◌∙◌, arith, min, refl, sym}
use Rattle.std.proofs.lemmas.List.{at_drop_all}
use Rattle.frames.specs.Frame.{least_period}
use Rattle.frames.proofs.Folds.{fold_more}
use Rattle.frames.proofs.frame.least_period.Goals as goal

pub loop-row-preserved : goal.loop-row-preserved
loop-row-preserved c = fold_more least_period (λ least row. min least row.sheet.period)
    (λ least row rows. refl) c.args.rows.now c.loop-row.row-index c.row-item.result c.loop-row.least
    c.min-least.result c.loop-row-test.true c.row-item.is
    (omega (arith, c.min-least.ensures, c.period.ensures)) ∙ c.loop-row.invariant

pub returns : goal.returns
returns c = sym (at_drop_all (least_period c.loop-row.least) c.args.rows.now c.loop-row.row-index
    c.loop-row-test.false) ∙ c.loop-row.invariant
