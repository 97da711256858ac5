use Rattle.std.proofs.Common.{◌≡◌, ◌∙◌, sym, ap, subst, List, map, option_map, unwrap_or, []}
use Rattle.task_sheet.proofs.Common.{IsByRank, Task}
use Rattle.task_sheet.specs.Tree.{sheet_at, tree_sheets}
use Rattle.task_sheet.specs.TreeFault.{of_set}
use Rattle.toml.specs.Data.{Members}
use Rattle.toml.specs.View.{table_view}
use Rattle.std.specs.Prelude.{Option}
use Rattle.task_sheet.proofs.TreeLaws.{after, here, at_exit, tree_rest}
use Rattle.task_sheet.proofs.read.read_tree.Goals as goal

pub returns-in_err-prefers-clause-err : goal.returns-in_err-prefers-clause-err
returns-in_err-prefers-clause-err c =
    let rest = tree_rest (table_view c.args.root.now) (sym c.if-not-only_keys.ensures)
    c.in-Some.ensures.1 in
    at_exit _ c.from_residual.result c.from_residual.ensures.1 (λ e same other. rw same
    (rest ∙ here _ c.in_err-prefers.ensures.err))

pub returns-in_err-node-clause-err : goal.returns-in_err-node-clause-err
returns-in_err-node-clause-err c =
    let rest = tree_rest (table_view c.args.root.now) (sym c.if-not-only_keys.ensures)
    c.in-Some.ensures.1 in
    at_exit _ c.from_residual-in_err-node.result c.from_residual-in_err-node.ensures.1
    (λ e same other. rw same (rest
    ∙ (after c.in_ok-prefers.ensures.ok.0 ∙ here _ c.in_err-node.ensures.err)))

pub returns-in_err-interrupts-clause-err : goal.returns-in_err-interrupts-clause-err
returns-in_err-interrupts-clause-err c =
    let rest = tree_rest (table_view c.args.root.now) (sym c.if-not-only_keys.ensures)
    c.in-Some.ensures.1 in
    at_exit _ c.from_residual-in_err-interrupts.result c.from_residual-in_err-interrupts.ensures.1
    (λ e same other. rw same (rest
    ∙ (after c.in_ok-prefers.ensures.ok.0 ∙ (after c.in_ok-node.ensures.ok.0
    ∙ here _ (c.in_err-interrupts.ensures.err (rw same at other))))))

pub returns-in_err-check_chains-clause-err : goal.returns-in_err-check_chains-clause-err
returns-in_err-check_chains-clause-err c =
    let rest = tree_rest (table_view c.args.root.now) (sym c.if-not-only_keys.ensures)
    c.in-Some.ensures.1 in
    at_exit _ c.from_residual-in_err-check_chains.result
    c.from_residual-in_err-check_chains.ensures.1
    (λ e same other. rw same (rest
    ∙ (after c.in_ok-prefers.ensures.ok.0 ∙ (after c.in_ok-node.ensures.ok.0
    ∙ (after c.in_ok-interrupts.ensures.ok.0 ∙ here _ c.in_err-check_chains.ensures.err)))))

pub returns-in_err-sheets-clause-err : goal.returns-in_err-sheets-clause-err
returns-in_err-sheets-clause-err c =
    let rest = tree_rest (table_view c.args.root.now) (sym c.if-not-only_keys.ensures)
    c.in-Some.ensures.1 in
    at_exit _ c.from_residual-in_err-sheets.result c.from_residual-in_err-sheets.ensures.1
    (λ e same other. rw same (rest
    ∙ (after c.in_ok-prefers.ensures.ok.0 ∙ (after c.in_ok-node.ensures.ok.0
    ∙ (after c.in_ok-interrupts.ensures.ok.0 ∙ (after c.in_ok-check_chains.ensures.ok
    ∙ here _ (c.in_err-sheets.ensures.err (rw same at other))))))))

pub returns-in_err-set-clause-err : goal.returns-in_err-set-clause-err
returns-in_err-set-clause-err c =
    let rest = tree_rest (table_view c.args.root.now) (sym c.if-not-only_keys.ensures)
    c.in-Some.ensures.1 in
    at_exit _ c.from_residual-in_err-set.result c.from_residual-in_err-set.ensures.1
    (λ e same other. rw same (rest
    ∙ (after c.in_ok-prefers.ensures.ok.0 ∙ (after c.in_ok-node.ensures.ok.0
    ∙ (after c.in_ok-interrupts.ensures.ok.0 ∙ (after c.in_ok-check_chains.ensures.ok
    ∙ (after c.in_ok-sheets.ensures.ok.0
    ∙ here _ (ap (option_map of_set) (rw c.in_ok-sheets.ensures.ok.1
    at (c.in_err-set.ensures.err (λ q. other (same ∙ ap of_set q))))))))))))

pub returns-clause-ok : goal.returns-clause-ok
returns-clause-ok c =
    let rest = tree_rest (table_view c.args.root.now) (sym c.if-not-only_keys.ensures)
    c.in-Some.ensures.1 in
    let sheets = c.in_ok-sheets.ensures.ok.1 in
    let is : tree_sheets (table_view c.args.root.now) ≡ c.in_ok-sheets.sheets.items =
    ap (λ (o : Option (List Members)). map sheet_at (unwrap_or o [])) c.in-Some.ensures.1
    ∙ sym sheets in (
      rest ∙ (after c.in_ok-prefers.ensures.ok.0 ∙ (after c.in_ok-node.ensures.ok.0
          ∙ (after c.in_ok-interrupts.ensures.ok.0 ∙ (after c.in_ok-check_chains.ensures.ok
          ∙ (after c.in_ok-sheets.ensures.ok.0
          ∙ after (ap (option_map of_set) (rw sheets at c.in_ok-set.ensures.ok.0))))))),
      subst (λ (xs : List Task). IsByRank xs c.in_ok-set.set) (sym is) c.in_ok-set.ensures.ok.1,
      c.in_ok-prefers.ensures.ok.1,
      c.in_ok-node.ensures.ok.1,
      c.in_ok-interrupts.ensures.ok.1,
    )
