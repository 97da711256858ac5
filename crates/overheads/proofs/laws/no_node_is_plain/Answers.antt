use Rattle.std.proofs.Common.{◌∙◌, refl, sym}
use Rattle.overheads.proofs.PaddedSets.{padded-none, fault-none}
use Rattle.overheads.proofs.laws.no_node_is_plain.Goals as goal

pub returns : goal.returns
returns c = record {
  none = λ U V. (λ is. is.1, λ is. (refl, is));
  nothing = λ U V set bare.
      (λ is. is.1 ∙ padded-none U bare, λ is. (fault-none U set, is ∙ sym (padded-none U bare)));
}
