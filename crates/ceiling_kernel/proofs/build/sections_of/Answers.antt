use Rattle.std.proofs.Common.{◌+◌, ap, ◌∙◌, List, ℕ}
use Rattle.task_sheet.specs.Sheet.{CriticalSection}
use Rattle.ceiling_kernel.specs.Tick.{node_in, top_ceiling}
use Rattle.ceiling_kernel.proofs.TaskLaws.{sections-next}
use Rattle.ceiling_kernel.proofs.build.sections_of.Goals as goal

pub loop-section-preserved : goal.loop-section-preserved
loop-section-preserved c =
    let U = c.args.set.now in
    sections-next (node_in U c.args.order.now) c.args.sections.now c.loop-section.section-index
    c.section-item.result c.loop-section.kept.items c.push.new.self.items _
    c.loop-section-test.true c.section-item.is c.in_ok-push.ensures.items
    c.loop-section.invariant (record {
      at = ap (λ (s : CriticalSection). s.at) c.section.view_is;
      stop = ap (λ (s : CriticalSection). s.at + s.len) c.section.view_is;
      top = c.top_of.ensures
          ∙ (ap (λ (locks : List (List ℕ)). top_ceiling (node_in U c.args.order.now) locks)
          c.deref.ensures.value ∙ ap (λ (s : CriticalSection). top_ceiling
          (node_in U c.args.order.now) s.locks) c.section.view_is);
    })
