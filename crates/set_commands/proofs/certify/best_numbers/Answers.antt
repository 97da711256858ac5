use Rattle.std.proofs.Common.{◌≡◌, ◌∙◌, ◌++◌, ℕ, ◌≤◌, List, length, take, ap, map, sym, subst}
use Rattle.std.proofs.Math.ListN.{drop_of_length-le, take-append-drop}
use Rattle.std.proofs.lemmas.List.{append-nil}
use Rattle.std.proofs.lemmas.List.Elements.{All-from_recursion, All-get_or, recursion_from_All}
use Rattle.task_sheet.specs.Verdicts.{Admitted}
use Rattle.task_sheet.proofs.TaskLaws.{AllTasks-from_set}
use Rattle.task_sheet.proofs.VerdictLaws.{IsBestOrder-ready}
use Rattle.certificate.specs.Body.{IsChainText}
use Rattle.cert_checker.specs.Numbers.{IsChainOf, numbered}
use Rattle.cert_checker.proofs.NumberLaws.{numbers-plain, sum-short}
use Rattle.set_commands.proofs.certify.best_numbers.Goals as goal

-- a list up to its end
take-whole : {X : Type 0} (xs : List X) (n : ℕ) → length xs ≤ n → take n xs ≡ xs
take-whole xs n le = sym (append-nil (take n xs))
    ∙ ap (λ ys. take n xs ++ ys) (sym (drop_of_length-le xs le)) ∙ take-append-drop n xs

pub numbered-requires : goal.numbered-requires
numbered-requires c =
    let U = c.args.best.now.set in
    let levels = c.args.best.now.levels in
    let kept = rw c.set-set.ensures.same at c.sheets-sheets.ensures.kept in
    let ready = IsBestOrder-ready U (AllTasks-from_set U kept) levels c.set-set.ensures.best in
    let own = All-get_or (IsChainOf U) c.args.chains.now c.loop-chain.chain-index c.chain-item.result
    c.loop-chain-test.true c.requires in
    rw (c.deref.ensures.value, c.in_ok-levels.ensures, c.levels.ensures.same, c.set-set.ensures.same)
    (sum-short U kept levels ready.each_once ready.ready c.chain-item.result
    (subst (IsChainOf U) (sym c.chain-item.is) own))

pub returns-clause-plain : goal.returns-clause-plain
returns-clause-plain c =
    let U = c.args.best.now.set in
    let levels = c.args.best.now.levels in
    let kept = rw c.set-set.ensures.same at c.sheets-sheets.ensures.kept in
    let whole : c.loop-chain.all.items ≡ map (numbered c.set-set.result.now c.in_ok-levels.levels.items) c.args.chains.now =
    c.loop-chain.invariant ∙ ap (map (numbered c.set-set.result.now c.in_ok-levels.levels.items))
    (take-whole c.args.chains.now c.loop-chain.chain-index c.loop-chain-test.false) in
    rw (whole, c.in_ok-levels.ensures, c.levels.ensures.same, c.set-set.ensures.same)
    (All-from_recursion IsChainText _
    (numbers-plain U kept c.args.chains.now (Admitted levels) (recursion_from_All (IsChainOf U) c.args.chains.now c.requires)
    c.set-set.ensures.best))
