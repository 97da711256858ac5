use Rattle.std.proofs.Common.{◌∙◌, refl, sym, subst}
use Rattle.drafts.specs.Applied.{after_change}
use Rattle.drafts.specs.Rosters.{IsMade}
use Rattle.drafts.proofs.RosterLaws.{next_change}
use Rattle.drafts.proofs.applying.make_changes.Goals as goal

pub returns-in-Some-2-clause-ok : goal.returns-in-Some-2-clause-ok
returns-in-Some-2-clause-ok c =
    let tasks = c.loop-place.tasks.items in
    let name = c.in-Some.name.now in
    let change = c.in-Some.change.now in
    let refused = subst (IsMade (after_change c.args.team tasks name change)
    c.make_change.new.tasks.items) c.in-Some-2.is c.in_ok-refusal.ensures.ok in
    c.loop-place.invariant.same ∙ next_change c.args.team tasks c.args.changes.now.entries
    c.loop-place.place name change (sym c.in-Some.ensures.entry) ∙ rw refused refl

pub loop-place-preserved : goal.loop-place-preserved
loop-place-preserved c =
    let tasks = c.loop-place.tasks.items in
    let name = c.in-Some.name.now in
    let change = c.in-Some.change.now in
    let made = subst (IsMade (after_change c.args.team tasks name change)
    c.make_change.new.tasks.items) c.in-None.is c.in_ok-refusal.ensures.ok in
    record {
      roster = c.make_change.ensures.roster;
      same = c.loop-place.invariant.same ∙ next_change c.args.team tasks c.args.changes.now.entries
          c.loop-place.place name change (sym c.in-Some.ensures.entry) ∙ rw made refl;
    }
