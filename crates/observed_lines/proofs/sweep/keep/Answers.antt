use Rattle.std.proofs.Common.{rules}
use Rattle.std.proofs.lemmas.Fn.{filter_same}
use Rattle.observed_lines.specs.Causes.{is_there}
use Rattle.observed_lines.proofs.sweep.keep.Goals as goal

pub returns : goal.returns
returns c = filter_same _ (is_there c.args.time) _ (λ x b f h. search rules) _ _
    c.retain.ensures.filtered
