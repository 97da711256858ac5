use Rattle.std.proofs.Common.{rules}
use Rattle.std.proofs.lemmas.Fn.{filter_same}
use Rattle.observed.specs.Sweeps.{goes_on}
use Rattle.observed.proofs.sweeps.keep.Goals as goal

pub returns : goal.returns
returns c = filter_same _ (goes_on c.args.time) _ (λ x b f h. search rules) _ _
    c.retain.ensures.filtered
