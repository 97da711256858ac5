use Rattle.std.proofs.Common.{◌∙◌, sym}
use Rattle.task_sheet.proofs.TreeLaws.{at_exit}
use Rattle.chain_tables.proofs.DocumentLaws.{node-fails, node-faulty}
use Rattle.chain_tables.proofs.documents.read_written.Goals as goal

pub returns-in_ok-own-in-Some-clause-err : goal.returns-in_ok-own-in-Some-clause-err
returns-in_ok-own-in-Some-clause-err c =
    node-fails c.args.text.now c.in-Some.node.now c.in-Some.rest.now c.in_ok-own-in-Some.own.items
    c.read_teams.result (sym c.is_gathered.ensures ∙ c.if-not-is_gathered.false) c.in-Some.ensures
    c.in_ok-own-in-Some.ensures.ok c.read_teams.ensures.err

pub returns-in_err-own-in-Some-clause-err : goal.returns-in_err-own-in-Some-clause-err
returns-in_err-own-in-Some-clause-err c =
    at_exit _ c.from_residual.result c.from_residual.ensures.1
    (λ e same other. rw same (node-faulty c.args.text.now c.in-Some.node.now c.in-Some.rest.now _
    (sym c.is_gathered.ensures ∙ c.if-not-is_gathered.false) c.in-Some.ensures
    (c.in_err-own-in-Some.ensures.err (rw same at other))))
