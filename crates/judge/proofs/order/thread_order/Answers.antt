use Rattle.std.proofs.Common.{rules, ◌∙◌, List, ℕ, map, ap, arith, sym, subst}
use Rattle.std.proofs.lemmas.List.{get_or_default}
use Rattle.std.proofs.lemmas.List.Sorted.{IsNonDecreasingBy-from_sort_by_key}
use Rattle.judge.specs.KeptOrder.{IsOrderOfThreads}
use Rattle.judge.specs.declared.order.Numbered.{Numbered}
use Rattle.judge.proofs.NumberLaws.{order_member, ordered}
use Rattle.judge.proofs.order.thread_order.Goals as goal

pub returns-clause-order : goal.returns-clause-order
returns-clause-order c =
    let rising = IsNonDecreasingBy-from_sort_by_key (λ (n : Numbered). n.number) _
    c.sort_unstable_by_key.ensures.sorted (λ a r q k. search rules) in
    let is = c.in_ok-order.ensures
    ∙ ap (λ (ns : List Numbered). map (λ (n : Numbered). n.task) ns) c.deref.ensures.value in
    subst (λ (order : List ℕ). IsOrderOfThreads c.args.set.now c.args.threads.now order) (sym is)
    (ordered c.args.set.now c.args.threads.now c.numbered_of.ensures.kept c.requires
    c.in_ok-numbered.numbered.items c.sort_unstable_by_key.new.self.items
    c.in_ok-numbered.ensures.tasks c.in_ok-numbered.ensures.numbers
    c.sort_unstable_by_key.ensures.permutation rising)

pub returns-clause-within : goal.returns-clause-within
returns-clause-within c = λ k d lt.
    let order : List ℕ = c.in_ok-order.order.items in
    let within = order_member c.args.set.now c.args.threads.now order
    (returns-clause-order c).each_once k lt in
    omega (arith, within.0, c.numbered_of.ensures.kept.few, get_or_default order k d 0 lt)
