use Rattle.std.proofs.Common.{◌≡◌, ◌∙◌, ◌<◌, length, All, ap, sym, subst, arith, List, ℕ}
use Rattle.task_sheet.specs.Sheet.{Task}
use Rattle.task_sheet.specs.declared.set.TheConstants.{TASK_LIMIT}
use Rattle.task_sheet.specs.Indexes.{among}
use Rattle.task_sheet.specs.Verdicts.{IsStuck, FailureData, LevelData, tasks_of}
use Rattle.assignment.specs.Places.{PlaceData}
use Rattle.assignment.specs.Placings.{IsBestPlacing, places_of}
use Rattle.assignment.specs.Verdict.{verdict_set}
use Rattle.assignment.specs.declared.verdict.Verdict.{Verdict}
use Rattle.drafts.specs.Placed.{StuckSetData, AreStuck}
use Rattle.drafts.proofs.PlacedLaws.{levels-few, order-kept, stuck-below, stuck-as, listed-stuck}
use Rattle.drafts.proofs.judging.judged_by.Goals as goal

pub places_of-requires-clause-room : goal.places_of-requires-clause-room
places_of-requires-clause-room c =
    let of_set = sym (ap (λ (v : Verdict). verdict_set v) c.in-Admitted.is) ∙ c.requires.same in
    omega (
      arith,
      levels-few c.in-Admitted.assignment.set c.in-Admitted.assignment.levels c.levels.ensures.best,
      ap length c.levels.ensures.same,
      ap length of_set,
      c.requires.room,
    )

pub new-requires : goal.new-requires
new-requires c =
    let of_set = sym (ap (λ (v : Verdict). verdict_set v) c.in-Admitted.is) ∙ c.requires.same in
    let places = c.places_of.ensures ∙ ap places_of c.levels.ensures.same in
    subst (λ (ps : List PlaceData). IsBestPlacing c.args.set.value ps) (sym places)
    (subst (λ (U : List Task). IsBestPlacing U (places_of c.in-Admitted.assignment.levels)) of_set
    (order-kept c.in-Admitted.assignment.set c.in-Admitted.assignment.levels c.levels.ensures.best))

pub members_of-requires : goal.members_of-requires
members_of-requires c =
    let of_set = sym (ap (λ (v : Verdict). verdict_set v) c.in-Infeasible.is) ∙ c.requires.same in
    subst (λ (fs : List FailureData). All (λ (f : FailureData). f.task < TASK_LIMIT) fs)
    (sym c.members.ensures.same)
    (stuck-below c.in-Infeasible.obstruction.set TASK_LIMIT c.in-Infeasible.obstruction.members
    (omega (arith, ap length of_set, ap length c.deref.ensures, c.len.ensures.count, c.len.ensures.limit))
    c.members.ensures.stuck)

pub returns-in-Infeasible : goal.returns-in-Infeasible
returns-in-Infeasible c =
    let U = c.args.set.value in
    let of_set = sym (ap (λ (v : Verdict). verdict_set v) c.in-Infeasible.is) ∙ c.requires.same in
    let stuck = subst (λ (V : List Task). IsStuck V c.in-Infeasible.obstruction.members) of_set
    c.members.ensures.stuck in
    let same = c.members_of.ensures
    ∙ ap (λ (fs : List FailureData). among (tasks_of fs)) c.members.ensures.same in
    let greatest = stuck-as U c.members_of.result c.in-Infeasible.obstruction.members stuck same in (
      ap (λ (s : StuckSetData). s.set) c.new-in-Infeasible.ensures,
      subst (λ (ms : List ℕ). AreStuck U ms)
          (sym (ap (λ (s : StuckSetData). s.members) c.new-in-Infeasible.ensures))
          (listed-stuck U c.members_of.result greatest),
    )
