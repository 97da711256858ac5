use Rattle.set_commands.proofs.explain_lines.explained_task.Goals as goal

pub returns : goal.returns
returns c =
    let found = rw c.deref.ensures.value at c.in_ok-lines.ensures in (
      found.0,
      found.1,
      found.2,
      found.3,
      rw (c.in_ok-text.ensures, c.as_str.ensures.value, found.4) at c.in_ok-push_str.ensures.bytes,
    )
