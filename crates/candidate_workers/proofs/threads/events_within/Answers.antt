use Rattle.std.proofs.Common.{◌≡◌, ◌+◌, ◌∙◌, get_or, ap, arith}
use Rattle.std.specs.Int.{div_ceil}
use Rattle.std.proofs.lemmas.List.Sums.{sum_by_more}
use Rattle.task_sheet.specs.Sheet.{IsInterrupt}
use Rattle.candidate_workers.specs.Threads.{comes_within}
use Rattle.response_time.proofs.InterruptSums.{no_interrupt}
use Rattle.candidate_workers.proofs.EventLaws.{comes-few}
use Rattle.candidate_workers.proofs.threads.events_within.Goals as goal

pub loop-interrupt-preserved : goal.loop-interrupt-preserved
loop-interrupt-preserved c =
    let xs = c.interrupts-interrupt-items.result.now in
    let i = c.loop-interrupt.interrupt-index in
    let x = get_or xs i no_interrupt in
    let valid : IsInterrupt x = c.interrupts-interrupt-items.ensures.limits.valid i no_interrupt
    c.loop-interrupt-test.true in
    let whole : c.args.time ≡ c.args.time + 0 = omega arith in
    let here : c.div_ceil-events-in-loop-interrupt.result ≡ comes_within c.args.time x =
    c.div_ceil-events-in-loop-interrupt.ensures ∙ ap (λ t. div_ceil t x.period) whole in
    let more =
    sum_by_more (comes_within c.args.time) xs i no_interrupt c.loop-interrupt-test.true in
    record {
      total = omega (arith, here, more, c.loop-interrupt.invariant.total);
      short = omega (
        arith,
        here,
        comes-few c.args.time x valid c.requires.time,
        c.loop-interrupt.invariant.short,
      );
    }
