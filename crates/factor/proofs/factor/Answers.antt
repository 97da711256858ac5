use Rattle.std.proofs.Common.{◌≤◌, option_map, arith, rules}
use Rattle.factor.proofs.AtLaws.{greatest-edge}
use Rattle.factor.proofs.factor.Goals as goal

pub returns-in-Ok-eq0 : goal.returns-in-Ok-eq0
returns-in-Ok-eq0 c = λ f some. (greatest-edge c.args.set.now c.sheets.ensures.kept c.requires.some _
    (option_map (λ o. o.now) c.args.order) _ c.in-Ok-eq0.ensures.edge (λ f answer said. search rules)).1 f
    (omega (arith, some, c.in-Ok-eq0.field-0-test))

pub returns-in-Ok : goal.returns-in-Ok
returns-in-Ok c =
    let last = greatest-edge c.args.set.now c.sheets.ensures.kept c.requires.some _
    (option_map (λ o. o.now) c.args.order) _ c.in-Ok.ensures.edge (λ f answer said. search rules) in
    let some : 1 ≤ c.in-Ok.most = omega (arith, c.in-Ok.most-test.1) in
    record { some = some; passes = last.0 some; greatest = last.1 }
