use Rattle.std.proofs.Common.{◌∙◌, ap, is_some, option_map}
use Rattle.std.proofs.Common.{refl}
use Rattle.std.proofs.Math.ListN.{drop_of_length-le}
use Rattle.std.proofs.lemmas.Bool.{false≢true}
use Rattle.task_sheet.specs.declared.read.SetFault.TheVariants as fault
use Rattle.task_sheet.proofs.TreeLaws.{table_step, interrupts_more, interrupt_fails}
use Rattle.task_sheet.proofs.TreeLaws.{at_exit, all_interrupts}
use Rattle.task_sheet.proofs.read.read_each.Goals as goal
use Rattle.task_sheet.proofs.read.read_each.Goals.{in-Some+in-Some-read_interrupt+in_ok-push-in-Some-read_interrupt}
use Rattle.task_sheet.proofs.read.read_each.Goals.{in_default}

pub loop-i-preserved : goal.loop-i-preserved
loop-i-preserved c =
    let next = table_step c.args.items.now c.loop-i.i c.index-items-i.result c.loop-i-test.true
    c.index-items-i.is c.loop-i.invariant.tables in
    elim c.match-as_table.branch [
      | in-Some+in-Some-read_interrupt+in_ok-push-in-Some-read_interrupt w ↦ record {
        tables = next.1;
        read = rw (
          w.interrupts-is,
          w.in_ok-push-in-Some-read_interrupt.ensures.items,
          w.in-Some-read_interrupt.ensures.1,
        ) (interrupts_more (rw (next.2, ← w.in-Some.ensures) at c.loop-i.invariant.read)
            w.in-Some-read_interrupt.ensures.0);
      }
      | in_default w ↦ absurd (false≢true (ap is_some w.in_default.ensures ∙ next.0))
    ]

pub returns-in-None-clause-err : goal.returns-in-None-clause-err
returns-in-None-clause-err c =
    let next = table_step c.args.items.now c.loop-i.i c.index-items-i.result c.loop-i-test.true
    c.index-items-i.is c.loop-i.invariant.tables in
    λ other. ap (option_map fault.BadInterrupt) (interrupt_fails
    (rw (next.2, ← c.in-Some.ensures) at c.loop-i.invariant.read) c.in-None.ensures)

pub loop-i-init : goal.loop-i-init
loop-i-init c = record {
  tables = c.requires;
  read = record { bad = refl; interrupts = rw c.new-interrupts.ensures.items refl };
}

pub returns-in_err-push-in-Some-read_interrupt-clause-err :
    goal.returns-in_err-push-in-Some-read_interrupt-clause-err
returns-in_err-push-in-Some-read_interrupt-clause-err c =
    at_exit _ c.from_residual.result c.from_residual.ensures.1
    (λ e same other. absurd (other same))

pub returns-clause-ok : goal.returns-clause-ok
returns-clause-ok c =
    all_interrupts
    (rw (drop_of_length-le c.args.items.now c.loop-i-test.false) at c.loop-i.invariant.read)
