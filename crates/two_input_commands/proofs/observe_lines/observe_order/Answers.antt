use Rattle.std.proofs.Common.{true, inr, refl, rules}
use Rattle.trace_text.specs.TraceLines.{rows_at}
use Rattle.two_input_commands.proofs.Observations.{given, tasks_within}
use Rattle.two_input_commands.proofs.Ordered.{judged_by}
use Rattle.two_input_commands.proofs.observe_lines.observe_order.Goals as goal

pub returns-in_default-clause-answer : goal.returns-in_default-clause-answer
returns-in_default-clause-answer c =
    let node = c.in-Ok-judge_rows.node in (
      record {
        judged = judged_by c.args.tasks.now c.args.rows.now node.judged.items c.requires
            (rw c.of-tabled.ensures at c.in-Ok-judge_rows.ensures.judged);
        rows = c.args.rows.now;
        read = refl;
        numbers = rw c.of-tabled.ensures at c.in-Ok-judge_rows.ensures.numbers;
      },
      rw c.deref.ensures.value at (c.in_ok-places.ensures.miss (search rules)),
      c.in-Ok.ensures.sound,
    )

pub observe_places-requires : goal.observe_places-requires
observe_places-requires c =
    rw c.deref-3.ensures.value (tasks_within c.of-tabled.result c.in-Ok-judge_rows.node.judged.items
    c.in-Some.places.items c.in-Ok-judge_rows.ensures.judged.0.by_numbers.each_once
    (rw (c.in-Some.is, c.deref.ensures.value) at c.in_ok-places.ensures.meet))

pub returns-in-Ok-observe_places-clause-answer : goal.returns-in-Ok-observe_places-clause-answer
returns-in-Ok-observe_places-clause-answer c = (
  c.in-Ok-judge_rows.node.numbers.items,
  c.in-Some.places.items,
  c.in-Ok.trace,
  given c.args.tasks.now c.args.rows.now (rows_at c.args.at.line c.args.at.rest.now) c.in-Ok.trace
      c.in-Ok-judge_rows.node.judged.items c.in-Ok-judge_rows.node.numbers.items
      c.in-Some.places.items c.requires c.in-Ok.ensures
      (rw c.of-tabled.ensures at c.in-Ok-judge_rows.ensures.judged)
      (rw c.of-tabled.ensures at c.in-Ok-judge_rows.ensures.numbers)
      (rw (c.in-Some.is, c.deref.ensures.value) at c.in_ok-places.ensures.meet),
  rw (c.of-tabled.ensures, c.deref-2.ensures.value, c.deref-3.ensures.value) at c.in-Ok-observe_places.ensures,
)

pub returns-clause-answer : goal.returns-clause-answer
returns-clause-answer c = inr (
  true,
  c.in-Ok-judge_rows.node.numbers.items,
  c.in-Some.places.items,
  c.in-Ok.trace,
  given c.args.tasks.now c.args.rows.now (rows_at c.args.at.line c.args.at.rest.now) c.in-Ok.trace
      c.in-Ok-judge_rows.node.judged.items c.in-Ok-judge_rows.node.numbers.items
      c.in-Some.places.items c.requires c.in-Ok.ensures
      (rw c.of-tabled.ensures at c.in-Ok-judge_rows.ensures.judged)
      (rw c.of-tabled.ensures at c.in-Ok-judge_rows.ensures.numbers)
      (rw (c.in-Some.is, c.deref.ensures.value) at c.in_ok-places.ensures.meet),
  rw (c.of-tabled.ensures, c.deref-2.ensures.value, c.deref-3.ensures.value) at c.in-Err-observe_places.ensures,
)
