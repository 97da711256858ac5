use Rattle.std.proofs.Common.{rules, not}
use Rattle.std.proofs.lemmas.Fn.{filter_same}
use Rattle.drafts.specs.Applied.{bears_name}
use Rattle.drafts.proofs.roster.take_out.Goals as goal

pub returns : goal.returns
returns c = filter_same _ (λ o. not (bears_name c.args.name o)) _ (λ x b f h. search rules) _ _
    c.retain.ensures.filtered
