use Rattle.std.proofs.Common.{ℕ, List, Option, option_map, arith, rules}
use Rattle.std.proofs.lemmas.Bool.{both_ways}
use Rattle.limits.proofs.EdgeLaws.{last-edge}
use Rattle.limits.proofs.SharedLaws.{Admits, admits-less, last-admits, none-admits}
use Rattle.limits.proofs.shared.furthest_shared.Goals as goal

pub returns-then-not-is_possible : goal.returns-then-not-is_possible
returns-then-not-is_possible c =
    let W = c.args.written.now in
    let order : Option (List ℕ) = option_map (λ o. o.now) c.args.order in
    none-admits W c.args.node c.args.number order c.sheets-sheets.ensures.kept
    (λ admits. both_ways _ c.if-not-is_possible.true (c.in_ok-is_possible.ensures.1
    (rw (c.with_shared-easy.ensures, c.least_shared-least.ensures) admits)))

pub returns : goal.returns
returns c =
    let W = c.args.written.now in
    let order : Option (List ℕ) = option_map (λ o. o.now) c.args.order in
    let here = rw c.with_shared-easy.ensures at (c.in_ok-is_possible.ensures.0 c.if-not-is_possible.false) in
    let last = last-edge _ (Admits W c.args.node c.args.number order) _ _ _ c.in_ok-most.ensures.edge here
    (λ n answer from lt post. search rules)
    (λ low high from le lt. admits-less W c.args.node c.args.number order c.sheets-sheets.ensures.kept low high
    (omega (arith, from, c.least_shared-least.ensures)) le) in
    last-admits W c.args.node c.args.number order c.sheets-sheets.ensures.kept _ last.0
    (λ more lt le. last.1 more lt (omega (arith, le, c.most_shared-end.ensures.same)))
