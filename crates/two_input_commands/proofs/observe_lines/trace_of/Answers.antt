use Rattle.std.proofs.Common.{◌≡◌, Ok}
use Rattle.judge.specs.Front.{settings_in}
use Rattle.two_input_commands.proofs.observe_lines.trace_of.Goals as goal

pub returns-in-Ok : goal.returns-in-Ok
returns-in-Ok c =
    let settings : settings_in c.args.text.now ≡ Ok c.in-Ok.front.rows.items =
    rw (c.start.ensures.whole, c.start.ensures.first) at c.in-Ok.ensures.rows in
    rw settings (rw (
      c.deref.ensures.value,
      c.in-Ok.ensures.behind,
      c.start.ensures.whole,
      c.start.ensures.first,
    ) at c.read_behind.ensures)

pub returns-in-Err : goal.returns-in-Err
returns-in-Err c =
    rw (c.start.ensures.whole, c.start.ensures.first) at c.in-Err.ensures.rows
