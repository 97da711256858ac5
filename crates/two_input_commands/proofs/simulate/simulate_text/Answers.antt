use Rattle.std.proofs.Common.{◌≡◌, Ok, inl}
use Rattle.judge.specs.Front.{settings_in}
use Rattle.release_list.specs.Reading.{list_at}
use Rattle.two_input_commands.proofs.Ordered.{in_order_ok}
use Rattle.two_input_commands.proofs.simulate.simulate_text.Goals as goal

pub returns-in-Ok-clause-answer : goal.returns-in-Ok-clause-answer
returns-in-Ok-clause-answer c =
    let settings : settings_in c.args.text.now ≡ Ok c.in-Ok.front.rows.items =
    rw (c.start.ensures.whole, c.start.ensures.first) at c.in-Ok.ensures.rows in
    rw settings (rw (
      c.in-Ok.ensures.end,
      c.in-Ok.ensures.behind,
      c.start.ensures.whole,
      c.start.ensures.first,
    ) at c.simulate_front.ensures)

pub returns-in-Ok-clause-order : goal.returns-in-Ok-clause-order
returns-in-Ok-clause-order c =
    let front = c.in-Ok.front in
    in_order_ok c.args.tasks.now (Ok front.rows.items) (list_at front.behind.line
    front.behind.rest.now) c.simulate_front.result c.simulate_front.ensures

pub returns-in-Err-clause-answer : goal.returns-in-Err-clause-answer
returns-in-Err-clause-answer c =
    inl (rw (c.start.ensures.whole, c.start.ensures.first) at c.in-Err.ensures.rows)
