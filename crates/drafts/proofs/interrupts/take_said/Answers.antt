use Rattle.std.proofs.Common.{◌==◌, rules, not}
use Rattle.std.proofs.lemmas.Fn.{filter_same}
use Rattle.drafts.proofs.interrupts.take_said.Goals as goal

pub returns : goal.returns
returns c = filter_same _ (λ x. not (x.team == c.args.team)) _ (λ x b f h. search rules) _ _
    c.retain.ensures.filtered
