use Rattle.std.proofs.Common.{◌∙◌, ap, is_some}
use Rattle.std.proofs.Common.{refl}
use Rattle.std.proofs.Math.ListN.{drop_of_length-le}
use Rattle.std.proofs.lemmas.Bool.{false≢true}
use Rattle.task_sheet.proofs.TreeLaws.{at_exit, table_step}
use Rattle.chain_tables.specs.declared.fault.ChainFault.TheVariants.{Document}
use Rattle.chain_tables.proofs.TableLaws.{table_fails, tables_all, tables_more}
use Rattle.chain_tables.proofs.documents.read_tables.Goals as goal
use Rattle.chain_tables.proofs.documents.read_tables.Goals.{in-Some+in_ok-chain+in_ok-push, in_default}

pub loop-i-preserved : goal.loop-i-preserved
loop-i-preserved c =
    let next = table_step c.args.items.now c.loop-i.i c.index-items-i.result c.loop-i-test.true
    c.index-items-i.is c.loop-i.invariant.tables in
    elim c.match-as_table.branch [
      | in-Some+in_ok-chain+in_ok-push w ↦ record {
        tables = next.1;
        read = rw (w.chains-is, w.in_ok-push.ensures.items, w.in_ok-chain.ensures.ok.1)
            (tables_more (rw (next.2, ← w.in-Some.ensures) at c.loop-i.invariant.read)
            w.in_ok-chain.ensures.ok.0);
      }
      | in_default w ↦ absurd (false≢true (ap is_some w.in_default.ensures ∙ next.0))
    ]

pub returns-in_err-chain-clause-err : goal.returns-in_err-chain-clause-err
returns-in_err-chain-clause-err c =
    let next = table_step c.args.items.now c.loop-i.i c.index-items-i.result c.loop-i-test.true
    c.index-items-i.is c.loop-i.invariant.tables in
    at_exit _ c.from_residual.result c.from_residual.ensures.1
    (λ e same other. rw same (table_fails (Document c.args.whose.now)
    (rw (next.2, ← c.in-Some.ensures) at c.loop-i.invariant.read)
    (c.in_err-chain.ensures.err (rw same at other))))

pub loop-i-init : goal.loop-i-init
loop-i-init c = record {
  tables = c.requires;
  read = record { fault = refl; chains = rw c.new-chains.ensures.items refl };
}

pub returns-in_err-push-clause-err : goal.returns-in_err-push-clause-err
returns-in_err-push-clause-err c =
    at_exit _ c.from_residual-in_err-push.result c.from_residual-in_err-push.ensures.1
    (λ e same other. absurd (other same))

pub returns-clause-ok : goal.returns-clause-ok
returns-clause-ok c =
    tables_all
    (rw (drop_of_length-le c.args.items.now c.loop-i-test.false) at c.loop-i.invariant.read)
