use Rattle.std.proofs.Common.{◌∙◌, ap, sym}
use Rattle.task_sheet.specs.Indexes.{indexes_of}
use Rattle.task_sheet.proofs.MembersIndexes.{indexes_of-empty}
use Rattle.assignment.specs.Places.{PlaceData}
use Rattle.assignment.proofs.MemberLaws.{places_step}
use Rattle.assignment.proofs.members.members_at.Goals as goal

pub loop-place-init : goal.loop-place-init
loop-place-init c = ap indexes_of c.empty-members.ensures ∙ indexes_of-empty

pub loop-place-preserved : goal.loop-place-preserved
loop-place-preserved c = places_step c.loop-place.members c.with-members.result c.args.places.now
    c.loop-place.place-index c.place-item.result c.place.inside.task c.loop-place-test.true
    c.place-item.is (sym (ap (λ (p : PlaceData). p.task) c.place.view_is)) c.loop-place.invariant
    c.with-members.ensures
