use Rattle.std.proofs.Common.{◌≤◌, List, ℕ, length, sym, subst}
use Rattle.drafts.specs.declared.change.Change.{Change}
use Rattle.drafts.specs.Edits.{AreNamed}
use Rattle.drafts.proofs.ChangeLaws.{dropped_few, dropped_named}
use Rattle.drafts.proofs.draft.Draft.remove.Goals as goal

pub invariant_of-self : goal.invariant_of-self
invariant_of-self c =
    let a = c.self.inside in
    let made = sym c.shift_remove.ensures.entries in
    record {
      few = subst (λ (cs : List (List ℕ × Change)). length cs ≤ 64) made
          (dropped_few c.args.name a.changes.entries c.self.invariant.few);
      named =
          subst AreNamed made (dropped_named c.args.name a.changes.entries c.self.invariant.named);
    }
