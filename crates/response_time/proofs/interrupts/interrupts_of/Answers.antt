use Rattle.std.proofs.Common.{◌≡◌, ◌+◌, ◌*◌, ◌∙◌, get_or, ap, arith}
use Rattle.std.specs.Int.{div_ceil}
use Rattle.std.proofs.lemmas.Grind.{common_steps}
use Rattle.std.proofs.lemmas.List.Sums.{sum_by_more}
use Rattle.task_sheet.specs.Sheet.{IsInterrupt}
use Rattle.task_sheet.specs.Demand.{jobs_within, interrupt_within, interrupts_of}
use Rattle.task_sheet.proofs.InterruptLaws.{interrupts_of-fits}
use Rattle.response_time.proofs.InterruptSums.{no_interrupt, interrupt-short}
use Rattle.response_time.proofs.interrupts.interrupts_of.Goals as goal

pub loop-interrupt-preserved : goal.loop-interrupt-preserved
loop-interrupt-preserved c =
    let xs = c.interrupts-interrupt-items.result.now in
    let i = c.loop-interrupt.interrupt-index in
    let x = get_or xs i no_interrupt in
    let valid : IsInterrupt x = c.interrupts-interrupt-items.ensures.limits.valid i no_interrupt
    c.loop-interrupt-test.true in
    let whole : c.args.time ≡ c.args.time + 0 = omega arith in
    let jobs : c.div_ceil.result ≡ jobs_within x.period 0 c.args.time = c.div_ceil.ensures
    ∙ ap (λ t. div_ceil t x.period) whole in
    let here : c.div_ceil.result * x.cost ≡ interrupt_within c.args.time x =
    ap (λ n. n * x.cost) jobs in
    let more =
    sum_by_more (interrupt_within c.args.time) xs i no_interrupt c.loop-interrupt-test.true in
    record {
      total = omega (arith, here, more, c.loop-interrupt.invariant.total);
      short = omega (
        arith,
        here,
        interrupt-short x c.args.time valid c.requires.time,
        c.loop-interrupt.invariant.short,
      );
    }

pub returns-clause-fits : goal.returns-clause-fits
returns-clause-fits c =
    let is : c.loop-interrupt.taken ≡ interrupts_of c.args.time c.args.sheet.now =
    grind (arith, common_steps) in
    omega (
      arith,
      is,
      interrupts_of-fits c.args.sheet.now c.args.time c.requires.valid
          c.requires.time,
    )
