use Rattle.limit_lines.proofs.LineLaws.{fails-inside}
use Rattle.limit_lines.proofs.text.last_text.Goals as goal

pub factor_text-requires : goal.factor_text-requires
factor_text-requires c =
    rw c.tasks.ensures (fails-inside c.args.set.now c.greatest_slowdown-found.result c.greatest_slowdown-found.ensures)
