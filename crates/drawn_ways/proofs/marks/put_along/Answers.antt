use Rattle.std.proofs.Common.{◌∙◌, ◌++◌, ℕ, List, ap, append_assoc, string_bytes, sym}
use Rattle.std.proofs.lemmas.Result.{on_ok_weaker}
use Rattle.drawn_ways.specs.WayMarks.{path_end}
use Rattle.drawn_ways.proofs.marks.put_along.Goals as goal

pub returns : goal.returns
returns c =
    let end = path_end c.x_of-2.result c.args.chain c.args.how.now c.args.line.now in
    rw (
      sym c.sees.ensures ∙ c.if-not-sees.false,
      ← c.x_of.ensures.value,
      ← c.x_of-2.ensures.value,
    ) (on_ok_weaker c.put_end.result (λ put. put ∙ (ap (λ (l : List ℕ). l ++ end) c.in_ok-put_head.ensures
    ∙ append_assoc (string_bytes c.args.text.now) _ end)) c.put_end.ensures)
