use Rattle.std.proofs.Common.{option_map, string_bytes}
use Rattle.two_input_commands.proofs.limits_at_lines.placed_text.Goals as goal

pub limits_text-requires-clause-order : goal.limits_text-requires-clause-order
limits_text-requires-clause-order c =
    rw (c.of-tabled.ensures, c.deref-2.ensures.value, c.in_ok-order.ensures, c.deref.ensures.value)
    c.requires.order

pub returns : goal.returns
returns c = (
  option_map (λ p. p.now) c.args.places,
  string_bytes c.in_ok-lines.lines,
  c.requires.places,
  rw (c.of-tabled.ensures, c.deref-2.ensures.value, c.in_ok-order.ensures, c.deref.ensures.value) at
      c.in_ok-lines.ensures,
  rw (c.in_ok-text.ensures, c.deref-3.ensures.value, c.as_str.ensures.value) at c.in_ok-push_str.ensures.bytes,
)
