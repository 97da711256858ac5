use Rattle.std.proofs.Common.{append_assoc}
use Rattle.drawn_jobs.proofs.changes.put_change_sign.Goals as goal

pub returns : goal.returns
returns c = simp (
  c.in_ok-put_response-2.ensures,
  c.in_ok-push_str.ensures.bytes,
  c.in_ok-put_response.ensures,
  c.in_ok-write.ensures.bytes,
  c.x_of-x.ensures.value,
  c.ended.ensures,
  c.top_of.ensures.value,
  c.response_word-word.ensures,
  append_assoc,
) at c.writeln.ensures.bytes
