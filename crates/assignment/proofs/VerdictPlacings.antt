-- A placing of a set says what the set's verdict says.
use Rattle.std.proofs.Common.{◌≡◌, List, [], ◌∷◌, length, refl, sym, ◌∙◌, ap, subst}
use Rattle.task_sheet.proofs.Common.{Task, AllTasks, Indexes, indexes_of, without_index, among}
use Rattle.task_sheet.proofs.Common.{listed_below, IsResponseOf, all_of, LevelData, VerdictData}
use Rattle.task_sheet.proofs.Common.{Admitted, Infeasible, tasks_of, order_of, AllLevels}
use Rattle.task_sheet.proofs.Common.{IsVerdictOf}
use Rattle.task_sheet.proofs.IndexLaws.{same_parts}
use Rattle.task_sheet.proofs.PassingLaws.{IsResponseOf-one}
use Rattle.task_sheet.proofs.LevelLaws.{IsBest-one}
use Rattle.task_sheet.proofs.ObstructionLaws.{IsObstruction-fails}
use Rattle.task_sheet.proofs.VerdictLaws.{IsBestOrder-feasible, IsStuck-infeasible}
use Rattle.task_sheet.proofs.Deciding.{find_verdict}
use Rattle.assignment.specs.Places.{PlaceData}
use Rattle.assignment.specs.Placings.{tasks_of_places, AllRespond, IsPlacingOf, places_of, SaysSame}
use Rattle.assignment.specs.declared.placing.Placing.{Placing}
use Rattle.assignment.specs.declared.placing.Placing.TheVariants.{Best, Stuck}

same_place : (p : PlaceData) (l : LevelData) → p.task ≡ l.task → p.response ≡ l.response
    → p ≡ record { task = l.task; response = l.response }
same_place p l task response = λ i. let h : PlaceData =
    record { task = task i; response = response i } in h

-- the same order has the same responses
AllRespond-levels : (U : List Task) (L : Indexes) (places : List PlaceData)
    (levels : List LevelData) → tasks_of_places places ≡ order_of levels
    → AllRespond U L places → AllLevels U L levels → places ≡ places_of levels
AllRespond-levels U L [] [] same each right = refl
AllRespond-levels U L [] (l ∷ levels) same each right = cc
AllRespond-levels U L (p ∷ places) [] same each right = cc
AllRespond-levels U L (p ∷ places) (l ∷ levels) same each right =
    let task : p.task ≡ l.task = cc in
    let order : tasks_of_places places ≡ order_of levels = cc in
    let response =
    subst (λ k. IsResponseOf U k (without_index L k) l.response) (sym task) right.0.response in
    let first = same_place p l task (IsResponseOf-one U p.task (without_index L p.task) p.response
    l.response each.0 response) in
    let above = subst (λ k. AllLevels U (without_index L k) levels) (sym task) right.1 in
    let rest = AllRespond-levels U (without_index L p.task) places levels order each.1 above in
    λ i. first i ∷ rest i

pub says_same : (U : List Task) → AllTasks U → (v : VerdictData) (p : Placing) → IsVerdictOf U v
    → IsPlacingOf U p → SaysSame U v p
says_same U valid (Admitted levels) (Best places) verdict placing =
    AllRespond-levels U (all_of U) places.items levels (IsBest-one U (tasks_of_places places.items)
    (order_of levels) placing.best verdict.best) placing.each verdict.each
says_same U valid (Admitted levels) (Stuck left) verdict placing =
    absurd (IsObstruction-fails U valid (indexes_of left) placing.obstruction
    (IsBestOrder-feasible U levels verdict))
says_same U valid (Infeasible members) (Best places) verdict placing =
    absurd (IsStuck-infeasible U valid members verdict
    (tasks_of_places places.items, placing.best.passing))
says_same U valid (Infeasible members) (Stuck left) verdict placing =
    let S = among (tasks_of members) in
    let L = indexes_of left in
    let same = same_parts S L (placing.greatest S verdict.greatest.obstruction)
    (verdict.greatest.greatest L placing.obstruction) in
    verdict.ranked ∙ ap (λ X. listed_below (length U) X) same

pub some_verdict_says : (U : List Task) → AllTasks U → (p : Placing) → IsPlacingOf U p
    → (v : VerdictData) × IsVerdictOf U v × SaysSame U v p
some_verdict_says U valid p placing =
    let found = find_verdict U valid in
    (found.0, found.1, says_same U valid found.0 p found.1 placing)
