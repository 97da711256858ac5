use Rattle.std.proofs.Common.{ap, ◌∙◌, length, length-append, ◌+◌, List, subst}
use Rattle.task_sheet.specs.Sheet.{CriticalSection}
use Rattle.ceiling_kernel.specs.declared.tasks.NodeTask.{NodeTask}
use Rattle.ceiling_kernel.specs.Tick.{node_in}
use Rattle.ceiling_kernel.specs.NodeTasks.{AreSectionsOf}
use Rattle.ceiling_kernel.proofs.TaskLaws.{tasks-next, item_at, valid_item, sections_fit}
use Rattle.ceiling_kernel.proofs.TaskLaws.{sections_run}
use Rattle.ceiling_kernel.proofs.build.tasks_of.Goals as goal

pub sections_of-requires-clause-fit : goal.sections_of-requires-clause-fit
sections_of-requires-clause-fit c =
    sections_fit c.sheet-item.result c.sections.result.now c.sections.ensures
    (valid_item c.args.set.now c.sheets-sheet-items.result.now c.loop-index.index
    c.sheet-item.result c.sheets-sheet-items.ensures.same c.sheets-sheet-items.ensures.kept
    c.loop-index-test.true c.sheet-item.is)

pub sections_of-requires-clause-run : goal.sections_of-requires-clause-run
sections_of-requires-clause-run c =
    sections_run c.sheet-item.result c.sections.result.now c.sections.ensures
    (valid_item c.args.set.now c.sheets-sheet-items.result.now c.loop-index.index
    c.sheet-item.result c.sheets-sheet-items.ensures.same c.sheets-sheet-items.ensures.kept
    c.loop-index-test.true c.sheet-item.is)

pub loop-index-preserved : goal.loop-index-preserved
loop-index-preserved c =
    let item = item_at c.args.set.now c.sheets-sheet-items.result.now c.loop-index.index
    c.sheet-item.result c.sheets-sheet-items.ensures.same c.loop-index-test.true c.sheet-item.is in
    let sections = c.sections.ensures ∙ ap (λ t. t.sections) item in
    record {
      count = ap (λ (ts : List NodeTask). length ts) c.in_ok-push.ensures.items ∙ (length-append
          c.loop-index.kept.items _ ∙ ap (λ n. n + 1) c.loop-index.invariant.count);
      each = tasks-next (node_in c.args.set.now c.args.order.now) c.loop-index.kept.items
          c.push.new.self.items c.loop-index.index _ c.loop-index.invariant.count
          c.in_ok-push.ensures.items c.loop-index.invariant.each (record {
            level = c.level_of.ensures;
            cost = c.cost.ensures ∙ ap (λ t. t.cost) item;
            sections = subst (λ (xs : List CriticalSection). AreSectionsOf
                (node_in c.args.set.now c.args.order.now) xs c.in_ok-sections_of.field-0.items)
                sections
                c.in_ok-sections_of.ensures;
          });
    }
