use Rattle.std.proofs.Common.{sym}
use Rattle.two_input_commands.proofs.way.draw_way.Goals as goal

pub returns-in-Ok-clause-answer : goal.returns-in-Ok-clause-answer
returns-in-Ok-clause-answer c = (
  c.in_ok-drawing.drawing,
  c.in-Some.chain.now,
  c.in_ok-drawing.ensures.answer,
  sym c.in-Some.ensures,
  c.in-Ok.ensures,
)
