use Rattle.std.proofs.Common.{◌∙◌}
use Rattle.judge.proofs.TextLaws.{copied_at}
use Rattle.judge.proofs.levels.number_at.Goals as goal

pub returns : goal.returns
returns c = c.copied.ensures
    ∙ copied_at c.args.numbers.now c.args.place c.get.result c.get.ensures.lookup
