use Rattle.std.proofs.Common.{sym, subst, List, ℕ, ◌≤◌, length}
use Rattle.drafts.specs.declared.change.Change.{Change}
use Rattle.drafts.specs.Edits.{AreNamed}
use Rattle.drafts.proofs.ChangeLaws.{recorded_few, recorded_named}
use Rattle.drafts.proofs.draft.record.Goals as goal

pub returns-in-Ok-clause-few : goal.returns-in-Ok-clause-few
returns-in-Ok-clause-few c = λ room few. subst (λ (cs : List (List ℕ × Change)). length cs ≤ 64)
    (sym c.in-Ok.ensures.entries)
    (recorded_few c.args.name c.args.change c.args.changes.now.entries room few)

pub returns-in-Ok-clause-named : goal.returns-in-Ok-clause-named
returns-in-Ok-clause-named c = λ one all. subst AreNamed (sym c.in-Ok.ensures.entries)
    (recorded_named c.args.name c.args.change c.args.changes.now.entries one all)
