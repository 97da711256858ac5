use Rattle.std.proofs.Common.{◌≡◌, ◌≤◌, ◌<◌, ◌+◌, length, ap, subst, arith}
use Rattle.task_sheet.specs.Sheet.{CriticalSection, task_at}
use Rattle.explain.specs.Blocking.{BlockerData}
use Rattle.miss.specs.Misses.{IsInSet}
use Rattle.miss.proofs.IndexLaws.{section_small}
use Rattle.miss.proofs.worst.lead_of.Goals as goal

module _ (c : goal.After-section) where
  small : c.section.inside.at + 1 ≤ 10000000
  small =
      let placed : (c.in-Some.blocker.task < length c.args.set.now) × (c.in-Some.blocker.place
      < length (task_at c.args.set.now c.in-Some.blocker.task).sections) =
      subst (λ b. IsInSet c.args.set.now b) c.in-Some.is c.requires in
      let s = section_small c.args.set.now c.sheets.ensures.kept c.sheets.result.now
      c.blocker.inside.task c.blocker.inside.place c.in-Some.blocker.task
      c.in-Some.blocker.place c.index-sheets-blocker.result c.sections.result.now
      c.index-sections-blocker.result
      c.sheets.ensures.same (ap (λ (b : BlockerData). b.task) c.blocker.view_is)
      (ap (λ (b : BlockerData). b.place) c.blocker.view_is) placed c.index-sheets-blocker.is
      c.sections.ensures c.index-sections-blocker.is in
      let at : c.section.inside.at ≡ c.index-sections-blocker.result.at =
      ap (λ (s : CriticalSection). s.at) c.section.view_is in
      omega arith

pub overflow_add-result : goal.overflow_add-result
overflow_add-result c = omega (arith, small c)

pub returns-in-Some-clause-small : goal.returns-in-Some-clause-small
returns-in-Some-clause-small c = small c
