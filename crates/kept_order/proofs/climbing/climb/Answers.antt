use Rattle.std.proofs.Common.{ap, List, length}
use Rattle.std.proofs.lemmas.Bool.{both_ways}
use Rattle.task_sheet.proofs.Common.{Task, indexes_of}
use Rattle.task_sheet.proofs.TaskLaws.{AllTasks-from_set}
use Rattle.task_sheet.proofs.MembersIndexes.{len-remove_member}
use Rattle.assignment.specs.Places.{PlaceData}
use Rattle.assignment.proofs.PlacingLaws.{IsPlaced-part, IsPlaced-start}
use Rattle.kept_order.proofs.ClimbLaws.{IsKeptTo-push, IsKeptTo-best, IsKeptTo-none}
use Rattle.kept_order.proofs.climbing.climb.Goals as goal

pub loop-left-init : goal.loop-left-init
loop-left-init c =
    let none = c.in_ok-places.ensures.items in
    record {
      chosen = rw none tt;
      placed = IsPlaced-start c.args.set.now c.all-left.result _ c.in_ok-places.places.items
          c.all-left.ensures (ap (λ (U : List Task). length U) c.sheets.ensures.same) none;
    }

pub lowest-requires-clause-part : goal.lowest-requires-clause-part
lowest-requires-clause-part c = IsPlaced-part c.args.set.now (indexes_of c.loop-left.left)
    c.loop-left.places.items c.loop-left.invariant.placed

pub loop-left-smaller : goal.loop-left-smaller
loop-left-smaller c =
    let same = ap (λ (p : PlaceData). p.task) c.place.view_is in
    rw (c.without-left.ensures, same)
    (len-remove_member c.loop-left.left c.in-Some.place.task c.in-Some.ensures.chosen.member)

pub loop-left-preserved : goal.loop-left-preserved
loop-left-preserved c =
    let same = ap (λ (p : PlaceData). p.task) c.place.view_is in
    rw (c.without-left.ensures, same, c.in_ok-push-in-Some.ensures.items)
    (IsKeptTo-push c.args.set.now c.args.kept.now c.loop-left.left c.loop-left.places.items
    c.in-Some.place c.loop-left.invariant c.in-Some.ensures.chosen c.in-Some.ensures.response)

pub returns-in-None-clause-none : goal.returns-in-None-clause-none
returns-in-None-clause-none c =
    IsKeptTo-none c.args.set.now c.args.kept.now c.loop-left.left c.loop-left.places.items
    (AllTasks-from_set c.args.set.now c.sheets.ensures.kept) c.loop-left.invariant
    (λ none. both_ways c.is_empty.result c.loop-left-test.true (c.is_empty.ensures.1 none))
    c.in-None.ensures.none

pub returns-clause-some : goal.returns-clause-some
returns-clause-some c = IsKeptTo-best c.args.set.now c.args.kept.now c.loop-left.left
    c.loop-left.places.items c.loop-left.invariant (c.is_empty.ensures.0 c.loop-left-test.false)
