use Rattle.std.proofs.Common.{◌∙◌, ap}
use Rattle.two_input_commands.proofs.beside.draw_beside_both.Goals as goal

pub returns : goal.returns
returns c = (
  c.in_ok-beside.beside,
  rw c.deref.ensures.value at c.in_ok-beside.ensures.answer,
  ap (λ v. v.items) c.into_bytes.ensures.value ∙ c.in_ok-text.ensures,
  c.beside_status.ensures,
)
