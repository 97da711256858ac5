use Rattle.std.proofs.Common.{◌∙◌, ◌++◌, ℕ, List, add-one, ap, arith, string_bytes}
use Rattle.limit_lines.proofs.common.account_text.Goals as goal

pub loop-place-preserved : goal.loop-place-preserved
loop-place-preserved c =
    let front : List ℕ = string_bytes c.loop-place.text in
    rw add-one (
      front,
      string_bytes c.in_ok-lines.lines,
      c.loop-place.invariant,
      c.in_ok-lines.ensures,
      c.in_ok-push_str.ensures.bytes ∙ ap (λ (t : List ℕ). front ++ t) c.as_str.ensures.value,
    )

pub interrupt_text-requires-clause-few : goal.interrupt_text-requires-clause-few
interrupt_text-requires-clause-few c =
    omega (arith, c.loop-place-test.true, c.interrupts-count.ensures.limits.few)
