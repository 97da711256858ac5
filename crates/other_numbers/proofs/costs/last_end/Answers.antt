use Rattle.std.proofs.Common.{◌≡◌, ◌+◌, ◌<◌, ℕ, max, List, length, get_or, drop, sym, ◌∙◌, ap}
use Rattle.std.proofs.Common.{arith}
use Rattle.std.proofs.lemmas.List.{drop_more}
use Rattle.task_sheet.proofs.Common.{CriticalSection, greatest_of}
use Rattle.task_sheet.proofs.Below.{ord_max-is}
use Rattle.other_numbers.proofs.CostLaws.{section_end, last_end-within}
use Rattle.other_numbers.proofs.costs.last_end.Goals as goal

-- one section more
end-step : (items : List CriticalSection) (i : ℕ) (x : CriticalSection) → i < length items
    → x ≡ get_or items i x → greatest_of section_end (drop i items)
    ≡ max (section_end x) (greatest_of section_end (drop (i + 1) items))
end-step items i x lt is = ap (greatest_of section_end) (drop_more items i x lt)
    ∙ ap (λ y. max (section_end y) (greatest_of section_end (drop (i + 1) items))) (sym is)

pub loop-section-init : goal.loop-section-init
loop-section-init c =
    omega (arith, ap (greatest_of section_end) c.sections-section-items.ensures)

pub overflow_add-section-inside : goal.overflow_add-section-inside
overflow_add-section-inside c =
    omega (
      arith,
      end-step c.sections-section-items.result.now c.loop-section.section-index
          c.section-item.result c.loop-section-test.true c.section-item.is,
      c.loop-section.invariant,
      last_end-within c.args.sheet.now c.requires,
      c.requires.cost_to,
      c.requires.period_to,
      ap section_end c.section.view_is,
    )

pub loop-section-preserved : goal.loop-section-preserved
loop-section-preserved c =
    omega (
      arith,
      end-step c.sections-section-items.result.now c.loop-section.section-index
          c.section-item.result c.loop-section-test.true c.section-item.is,
      c.loop-section.invariant,
      c.max-end.ensures,
      ord_max-is,
      ap section_end c.section.view_is,
    )

pub returns-clause-within : goal.returns-clause-within
returns-clause-within c =
    omega (arith, last_end-within c.args.sheet.now c.requires, c.loop-section.invariant)
