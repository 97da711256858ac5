use Rattle.std.proofs.Common.{◌≡◌, ◌∙◌, ◌++◌, ℕ, List, length, add-one, ap, arith, string_bytes}
use Rattle.limit_lines.proofs.whole.tasks_text.Goals as goal

pub loop-task-preserved : goal.loop-task-preserved
loop-task-preserved c =
    let front : List ℕ = string_bytes c.loop-task.text in
    rw add-one (
      front,
      string_bytes c.in_ok-lines.lines,
      c.loop-task.invariant,
      c.in_ok-lines.ensures,
      c.in_ok-push_str.ensures.bytes ∙ ap (λ (t : List ℕ). front ++ t) c.as_str.ensures.value,
    )

pub returns : goal.returns
returns c =
    let count : c.loop-task.task ≡ length c.args.set.now = omega (
      arith,
      c.loop-task-test.false,
      c.loop-task.auto.task-end,
      c.len-task-end.ensures.count,
    ) in
    rw count at c.loop-task.invariant
