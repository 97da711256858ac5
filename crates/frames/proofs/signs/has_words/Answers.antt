use Rattle.std.proofs.Common.{◌∙◌, ap}
use Rattle.std.specs.Prelude.{is_some}
use Rattle.memchr.proofs.lemmas.ValueLemmas.{FindsNeedle-value}
use Rattle.frames.proofs.signs.has_words.Goals as goal

pub returns : goal.returns
returns c = c.is_some.ensures
    ∙ ap is_some (FindsNeedle-value c.args.drawn.now c.args.words.now c.find.result
    (rw (c.as_bytes.ensures.value, c.as_bytes-2.ensures.value) at c.find.ensures))
