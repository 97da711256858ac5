use Rattle.std.proofs.lemmas.Result.{IfOk-weaker}
use Rattle.worst_lines.proofs.text.entry_text.Goals as goal

pub returns : goal.returns
returns c = IfOk-weaker c.lines_text.result _ _
    (λ text is. (
      c.in_ok-worst.worst,
      c.in_ok-case.case,
      c.in_ok-end.end,
      c.in_ok-worst.ensures,
      c.in_ok-case.ensures,
      c.in_ok-end.ensures,
      rw (c.as_str.ensures.value, c.in_ok-listed.ensures) at is,
    ))
    c.lines_text.ensures
