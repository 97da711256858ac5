use Rattle.std.proofs.Common.{◌≡◌, ◌∙◌, ◌+◌, ◌≤◌, ◌∷◌, ℕ, Bool, List, Some, None, ap, sym, cond, drop, nat_le, true}
use Rattle.std.proofs.lemmas.Bool.{and_parts, leb-true}
use Rattle.std.proofs.lemmas.List.{drop_more}
use Rattle.std.specs.List.{find}
use Rattle.observed.specs.SeenJob.{SeenData}
use Rattle.observed_lines.specs.Causes.{delays}
use Rattle.observed_lines.specs.Sweeps.{come_from}
use Rattle.observed_lines.specs.declared.causes.Source.{Source}
use Rattle.observed_lines.proofs.SweepLaws.{later, lower, none_ahead}
use Rattle.observed_lines.proofs.sweep.first_ahead.Goals as goal

pub returns-then-is_behind : goal.returns-then-is_behind
returns-then-is_behind c =
    let s : SeenData = c.args.seen.now in
    let b : Bool = c.args.asked.blocks in
    let l : ℕ = c.args.asked.least in
    let k : ℕ = c.loop-source.source-index in
    let cs : List Source = c.args.causes.now in
    let source : Source = c.source-item.result in
    let more : List Source = drop (k + 1) cs in
    let here : drop k cs ≡ source ∷ more = drop_more cs k source c.loop-source-test.true
    ∙ ap (λ (x : Source). x ∷ more) (sym c.source-item.is) in
    let le : s.arrival + s.lasted ≤ source.cause.arrival =
    leb-true (s.arrival + s.lasted) source.cause.arrival (sym c.is_behind.ensures ∙ c.if-is_behind.true) in
    let order : come_from source.cause.arrival more ≡ true =
    (and_parts (nat_le 0 source.cause.arrival) (come_from source.cause.arrival more)
    (ap (come_from 0) (sym here) ∙ c.loop-source.invariant.order c.if-in_order.true)).1 in
    let none : find (λ d. delays b l d s) (source ∷ more) ≡ None =
    ap (λ (x : Bool). cond x (Some source) (find (λ d. delays b l d s) more)) (later b l source s le)
    ∙ none_ahead b l s source.cause.arrival more le order in
    sym none ∙ (ap (λ (xs : List Source). find (λ d. delays b l d s) xs) (sym here)
    ∙ c.loop-source.invariant.first)

pub loop-source-preserved : goal.loop-source-preserved
loop-source-preserved c =
    let s : SeenData = c.args.seen.now in
    let b : Bool = c.args.asked.blocks in
    let l : ℕ = c.args.asked.least in
    let k : ℕ = c.loop-source.source-index in
    let cs : List Source = c.args.causes.now in
    let source : Source = c.source-item.result in
    let more : List Source = drop (k + 1) cs in
    let here : drop k cs ≡ source ∷ more = drop_more cs k source c.loop-source-test.true
    ∙ ap (λ (x : Source). x ∷ more) (sym c.source-item.is) in
    record {
      order = λ is. lower source.cause.arrival more
          (and_parts (nat_le 0 source.cause.arrival) (come_from source.cause.arrival more)
          (ap (come_from 0) (sym here) ∙ c.loop-source.invariant.order is)).1;
      first = sym (ap (λ (x : Bool). cond x (Some source) (find (λ d. delays b l d s) more))
          (sym c.delays.ensures ∙ c.if-delays.false))
          ∙ (ap (λ (xs : List Source). find (λ d. delays b l d s) xs) (sym here)
          ∙ c.loop-source.invariant.first);
    }
