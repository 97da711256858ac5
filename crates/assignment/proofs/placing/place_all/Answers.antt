use Rattle.std.proofs.Common.{◌∙◌, ap, List, length}
use Rattle.std.proofs.lemmas.Bool.{both_ways}
use Rattle.std.specs.FinSet as members
use Rattle.task_sheet.proofs.Common.{Task, indexes_of}
use Rattle.task_sheet.proofs.TaskLaws.{AllTasks-from_set}
use Rattle.task_sheet.proofs.LevelLaws.{AllChosen-best}
use Rattle.task_sheet.proofs.MembersIndexes.{len-remove_member}
use Rattle.assignment.specs.Places.{PlaceData}
use Rattle.assignment.specs.Placings.{tasks_of_places}
use Rattle.assignment.proofs.PlacingLaws.{IsPlaced-part, IsPlaced-start, IsPlaced-none}
use Rattle.assignment.proofs.PlacingLaws.{IsChosenTo-push, IsChosenTo-stuck}
use Rattle.assignment.proofs.placing.place_all.Goals as goal

pub loop-left-init : goal.loop-left-init
loop-left-init c =
    let none = c.in_ok-places.ensures.items in
    record {
      chosen = rw none tt;
      placed = IsPlaced-start c.args.set.now c.all-left.result _ c.in_ok-places.places.items
          c.all-left.ensures (ap (λ (U : List Task). length U) c.sheets.ensures.same) none;
    }

pub lowest-requires : goal.lowest-requires
lowest-requires c = IsPlaced-part c.args.set.now (indexes_of c.loop-left.left)
    c.loop-left.places.items c.loop-left.invariant.placed

pub loop-left-smaller : goal.loop-left-smaller
loop-left-smaller c =
    let same = ap (λ (p : PlaceData). p.task) c.place.view_is in
    rw (c.without-left.ensures, same)
    (len-remove_member c.loop-left.left c.in-Some.place.task c.in-Some.ensures.chosen.member)

pub loop-left-preserved : goal.loop-left-preserved
loop-left-preserved c =
    let same = ap (λ (p : PlaceData). p.task) c.place.view_is in
    IsChosenTo-push c.args.set.now c.loop-left.left c.without-left.result c.loop-left.places.items
    c.push.new.self.items c.in-Some.place c.loop-left.invariant
    c.in-Some.ensures.chosen c.in-Some.ensures.response (c.without-left.ensures
    ∙ ap (λ n. members.remove c.loop-left.left n) same) c.in_ok-push-in-Some.ensures.items

pub returns-in-None : goal.returns-in-None
returns-in-None c =
    IsChosenTo-stuck c.args.set.now c.loop-left.left c.loop-left.places.items
    (AllTasks-from_set c.args.set.now c.sheets.ensures.kept) c.loop-left.invariant
    (λ none. both_ways c.is_empty.result c.loop-left-test.true (c.is_empty.ensures.1 none))
    c.in-None.ensures.none

pub returns : goal.returns
returns c =
    let so = c.loop-left.invariant in
    let U = c.args.set.now in
    record {
      best = AllChosen-best U (tasks_of_places c.loop-left.places.items) so.chosen
          (IsPlaced-none U c.loop-left.left c.loop-left.places.items so.placed
          (c.is_empty.ensures.0 c.loop-left-test.false));
      each = so.placed.each;
    }
