use Rattle.std.proofs.Common.{◌≡◌, ℕ, inl, inr, List, Option, option_map, arith, rules}
use Rattle.std.proofs.lemmas.Bool.{both_ways, cases_lt}
use Rattle.limits.specs.Cuts.{cut, none_follows}
use Rattle.limits.specs.InOrder.{PassesIn}
use Rattle.limits.proofs.EdgeLaws.{last-edge}
use Rattle.limits.proofs.CutLaws.{most-last, most-none, most-whole, passes-cut}
use Rattle.limits.proofs.cuts.most_on.Goals as goal

pub returns-then-is_whole : goal.returns-then-is_whole
returns-then-is_whole c =
    let order : Option (List ℕ) = option_map (λ o. o.now) c.args.order in
    λ follows. most-whole c.args.set.now c.args.lock order follows c.args.longest
    c.requires.longest c.requires.some (c.in_ok-is_whole.ensures.0 c.if-is_whole.true)

pub returns-then-not-is_possible : goal.returns-then-not-is_possible
returns-then-not-is_possible c =
    let order : Option (List ℕ) = option_map (λ o. o.now) c.args.order in
    λ follows. most-none c.args.set.now c.args.lock order follows
    (λ passes. both_ways _ c.if-not-is_possible.true (c.in_ok-is_possible.ensures.1 passes))

pub returns : goal.returns
returns c =
    let U = c.args.set.now in
    let order : Option (List ℕ) = option_map (λ o. o.now) c.args.order in
    let last = last-edge _ (λ most. PassesIn order (cut none_follows c.args.lock most U)) _ _ _
    c.in_ok-most.ensures.edge (c.in_ok-is_possible.ensures.0 c.if-not-is_possible.false)
    (λ n answer from lt post. search rules)
    (λ low high from le lt. passes-cut none_follows none_follows c.args.lock low high U order le) in
    λ follows. most-last U c.args.lock order follows c.args.longest _ c.requires.longest
    c.in_ok-most.ensures.edge.from (omega (arith, c.in_ok-most.ensures.edge.before)) last.0
    (λ more lt le passes. elim (cases_lt more c.args.longest) [
      | inl lt' ↦ last.1 more lt lt' passes
      | inr ge ↦
          let same : more ≡ c.args.longest = omega (arith, le, ge) in
          both_ways _ c.if-is_whole.false (c.in_ok-is_whole.ensures.1 (rw same at passes))
    ])
