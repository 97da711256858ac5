use Rattle.std.proofs.Common.{rules, ◌≡◌, ◌∙◌, sym, ap, ◌+◌, Some, None, ◌++◌, if◌then◌else◌}
use Rattle.std.proofs.Common.{is_some, unwrap_or, option_map}
use Rattle.std.proofs.Common.{refl}
use Rattle.std.proofs.Math.ListN.{drop_of_length-le}
use Rattle.std.proofs.lemmas.Bool.{false≢true}
use Rattle.std.specs.Option.{option_or, option_to_list}
use Rattle.task_sheet.specs.Tree.{capped_end}
use Rattle.task_sheet.proofs.TreeLaws.{at_exit, table_step, read_more, all_read}
use Rattle.task_sheet.proofs.read.read_sections.Goals as goal
use Rattle.task_sheet.proofs.read.read_sections.Goals.{in-Some+in_ok-section+in_ok-take, in_default}

pub loop-i-preserved : goal.loop-i-preserved
loop-i-preserved c =
    let next = table_step c.args.items.now c.loop-i.i c.index-items-i.result c.loop-i-test.true
    c.index-items-i.is c.loop-i.invariant.tables in
    elim c.match-as_table.branch [
      | in-Some+in_ok-section+in_ok-take w ↦
          let section = w.in_ok-section.section in
          let bad : c.match-as_table.read.bad ≡ option_or c.loop-i.read.bad
          (if is_some section then None else Some (c.loop-i.i + 1)) = search rules in
          let sections : c.match-as_table.read.sections.items ≡ c.loop-i.read.sections.items
          ++ option_to_list section = search rules in
          let end : c.match-as_table.read.end ≡ unwrap_or (option_map capped_end section)
          c.loop-i.read.end = search rules in
          record {
            tables = next.1;
            read = rw (bad, sections, end) (read_more section
                (rw (next.2, ← w.in-Some.ensures) at c.loop-i.invariant.read)
                w.in_ok-section.ensures.ok.0 w.in_ok-section.ensures.ok.1);
          }
      | in_default w ↦ absurd (false≢true (ap is_some w.in_default.ensures ∙ next.0))
    ]

pub returns-in_err-section-clause-err : goal.returns-in_err-section-clause-err
returns-in_err-section-clause-err c =
    let next = table_step c.args.items.now c.loop-i.i c.index-items-i.result c.loop-i-test.true
    c.index-items-i.is c.loop-i.invariant.tables in
    at_exit _ c.from_residual.result c.from_residual.ensures.1
    (λ e same other. rw same (sym c.loop-i.invariant.read.fault
    ∙ rw (next.2, ← c.in-Some.ensures, c.in_err-section.ensures.err (rw same at other))))

pub loop-i-init : goal.loop-i-init
loop-i-init c = record {
  tables = c.requires;
  read = record { fault = refl; bad = refl; read = λ e. rw c.new.ensures.items refl };
}

pub returns-in_err-take-clause-err : goal.returns-in_err-take-clause-err
returns-in_err-take-clause-err c =
    at_exit _ c.from_residual-in_err-take.result c.from_residual-in_err-take.ensures.1
    (λ e same other. absurd (other same))

pub returns-clause-ok : goal.returns-clause-ok
returns-clause-ok c =
    all_read
    (rw (drop_of_length-le c.args.items.now c.loop-i-test.false) at c.loop-i.invariant.read)
