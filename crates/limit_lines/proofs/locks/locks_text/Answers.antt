use Rattle.std.proofs.Common.{◌≡◌, ◌∙◌, ◌++◌, ℕ, List, length, add-one, ap, arith, string_bytes}
use Rattle.ceilings.specs.IsTableOf.{locks_of}
use Rattle.limit_lines.proofs.locks.locks_text.Goals as goal

pub loop-place-preserved : goal.loop-place-preserved
loop-place-preserved c =
    let front : List ℕ = string_bytes c.loop-place.text in
    rw add-one (
      front,
      string_bytes c.in_ok-line.line,
      c.loop-place.invariant,
      c.in_ok-line.ensures,
      c.in_ok-push_str.ensures.bytes ∙ ap (λ (t : List ℕ). front ++ t) c.as_str.ensures.value,
    )

pub returns : goal.returns
returns c =
    let count : c.loop-place.place ≡ length (locks_of c.args.set.now) = omega (
      arith,
      c.loop-place-test.false,
      c.loop-place.auto.place-end,
      c.lock_count-place-end.ensures,
    ) in
    rw count at c.loop-place.invariant
