use Rattle.std.proofs.Common.{subst}
use Rattle.drafts.specs.Placed.{StuckSetData, AreStuck}
use Rattle.drafts.proofs.PlacedLaws.{listed-stuck}
use Rattle.drafts.proofs.placed.StuckSet.members.Goals as goal

pub returns-clause-stuck : goal.returns-clause-stuck
returns-clause-stuck c = subst (λ (s : StuckSetData). AreStuck s.set s.members) c.self.view_is
    (listed-stuck c.self.inside.set.value c.self.inside.members c.self.invariant)
