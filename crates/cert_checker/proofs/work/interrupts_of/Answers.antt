use Rattle.std.proofs.Common.{◌≡◌, ◌+◌, ◌*◌, ◌≤◌, sum_by, length, ◌∙◌, ap, arith}
use Rattle.std.proofs.lemmas.List.Sums.{sum_by-take-le}
use Rattle.task_sheet.specs.declared.node.Node.{Node}
use Rattle.task_sheet.specs.Demand.{releases_within, interrupt_within}
use Rattle.task_sheet.proofs.InterruptLaws.{interrupts_of-fits}
use Rattle.cert_checker.proofs.work.interrupts_of.Goals as goal

pub loop-interrupt-init : goal.loop-interrupt-init
loop-interrupt-init c =
    let x = c.args.sheet.now in
    let time = c.args.time in
    let timer : c.releases_within.result * c.node.result.release
    ≡ releases_within x time * x.node.release =
    ap (λ n. n * c.node.result.release) c.releases_within.ensures
    ∙ ap (λ (n : Node). releases_within x time * n.release) c.node.ensures.same in
    let fits : releases_within x time * x.node.release + sum_by (interrupt_within time) x.interrupts
    ≤ 190000000 = interrupts_of-fits x time c.requires.sheet c.requires.time in
    record { total = omega (arith, timer); small = omega (arith, timer, fits) }

pub overflow_add-taken : goal.overflow_add-taken
overflow_add-taken c =
    omega (
      arith,
      c.loop-interrupt.invariant.small,
      c.interrupt_within-taken.ensures.fits,
      c.loop-interrupt-test.true,
      c.interrupts-interrupt-items.ensures.limits.few,
      ap length c.interrupts-interrupt-items.ensures.same,
    )

pub returns-clause-fits : goal.returns-clause-fits
returns-clause-fits c =
    let x = c.args.sheet.now in
    let time = c.args.time in
    let items = c.interrupts-interrupt-items.result.now in
    let fits : releases_within x time * x.node.release + sum_by (interrupt_within time) x.interrupts
    ≤ 190000000 = interrupts_of-fits x time c.requires.sheet c.requires.time in
    omega (
      arith,
      c.loop-interrupt.invariant.total,
      sum_by-take-le (interrupt_within time) items
          c.loop-interrupt.interrupt-index,
      ap (sum_by (interrupt_within time))
          c.interrupts-interrupt-items.ensures.same,
      fits,
    )
