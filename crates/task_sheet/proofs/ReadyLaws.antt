-- What is ready is best, or there is no order.
use Rattle.std.proofs.Common.{◌≡◌, ℕ, inl, inr, true, false, ◌==◌, List, [], ◌∷◌, refl, sym, ◌∙◌}
use Rattle.std.proofs.Common.{ap, subst}
use Rattle.std.proofs.lemmas.Bool.{both_ways, or_cases, eqb-true}
use Rattle.task_sheet.proofs.Common.{Task, AllTasks, Indexes, without_index, among, all_of, Stands}
use Rattle.task_sheet.proofs.Common.{IsOrderOf, IsBest, IsFeasible, AllChosen, FailureData}
use Rattle.task_sheet.proofs.Common.{LevelData, tasks_of, order_of, AllFailures, AllReady}
use Rattle.task_sheet.proofs.Common.{IsReadyOrder, IsReadySet}
use Rattle.task_sheet.specs.Ready.{time_of, AllRefuted}
use Rattle.task_sheet.proofs.IndexLaws.{listed-has, IsOrderOf-head, IsOrderOf-rest}
use Rattle.task_sheet.proofs.PassingLaws.{Refutes-fails, Refutes-from_reason}
use Rattle.task_sheet.proofs.LevelLaws.{AllChosen-best, left_after-order}
use Rattle.task_sheet.proofs.ObstructionLaws.{IsObstruction-fails}

module _ (U : List Task) (valid : AllTasks U) where
  pub AllRefuted-fails : (L : Indexes) (fails : List FailureData) (j : ℕ) → AllRefuted U L fails
      → among (tasks_of fails) j ≡ true
      → ¬ Stands U j (without_index L j)
  AllRefuted-fails L [] j refuted is stands = both_ways false refl is
  AllRefuted-fails L (f ∷ fails) j refuted is stands =
      elim (or_cases (f.task == j) (among (tasks_of fails) j) is) [
        | inl here ↦
            let same = eqb-true f.task j here in
            Refutes-fails U valid f.task (without_index L f.task) f.reason refuted.0
            (subst (λ i. Stands U i (without_index L i)) (sym same) stands)
        | inr later ↦ AllRefuted-fails L fails j refuted.1 later stands
      ]

  -- where those of smaller rank are refuted, the task is the one chosen
  AllReady-chosen : (L : Indexes) (levels : List LevelData) → IsOrderOf L (order_of levels)
      → AllReady U L levels → AllChosen U L (order_of levels)
  AllReady-chosen L [] each ready = tt
  AllReady-chosen L (l ∷ levels) each ready = (
    record {
      member = IsOrderOf-head L l.task (order_of levels) each;
      stands = ((time_of U l, ready.0.positive, ready.0.within, ready.0.covers), ready.0.unbound);
      first = λ j lt is. AllRefuted-fails L l.fails j ready.0.refuted
          (ap (λ ns. among ns j) ready.0.lesser ∙ listed-has l.task L j lt is);
    },
    AllReady-chosen (without_index L l.task) levels (IsOrderOf-rest L l.task (order_of levels) each)
        ready.1,
  )

  pub IsReadyOrder-best : (levels : List LevelData) → IsReadyOrder U levels
      → IsBest U (order_of levels)
  IsReadyOrder-best levels ready =
      let order = order_of levels in
      AllChosen-best U order (AllReady-chosen (all_of U) levels ready.each_once ready.ready)
      (left_after-order (all_of U) order ready.each_once)

  pub IsReadySet-fails : (members : List FailureData) → IsReadySet U members → ¬ IsFeasible U
  IsReadySet-fails members ready =
      let S = among (tasks_of members) in
      IsObstruction-fails U valid S (record {
        within = ready.within;
        some = ready.some;
        stuck = λ i member. AllRefuted-fails S members i ready.refuted member;
      })

pub AllRefuted-from_failures : (U : List Task) (L : Indexes) (fails : List FailureData)
    → AllFailures U L fails → AllRefuted U L fails
AllRefuted-from_failures U L [] h = tt
AllRefuted-from_failures U L (f ∷ fails) h = (
  Refutes-from_reason U f.task (without_index L f.task)
      f.reason h.0,
  AllRefuted-from_failures U L fails h.1,
)
