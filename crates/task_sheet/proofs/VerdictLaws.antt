-- A set has one verdict, which is ready, and the climb from the lowest level up leads to it.
use Rattle.std.proofs.Common.{◌≡◌, ℕ, ◌<◌, true, false, List, [], ◌∷◌, ◌++◌, length, refl, sym, ◌∙◌}
use Rattle.std.proofs.Common.{ap, subst, arith}
use Rattle.std.proofs.lemmas.Bool.{ltb-true}
use Rattle.task_sheet.proofs.Common.{Task, AllTasks, Indexes, IsPart, without_index, among}
use Rattle.task_sheet.proofs.Common.{listed_below, IsResponseOf, all_of, Stands, IsFeasible}
use Rattle.task_sheet.proofs.Common.{IsOrderOf, AllStand, AllChosen, left_after, NoneStands}
use Rattle.task_sheet.proofs.Common.{IsGreatestObstruction, FailureData, LevelData, VerdictData}
use Rattle.task_sheet.proofs.Common.{Admitted, Infeasible, tasks_of, order_of, AllFailures}
use Rattle.task_sheet.proofs.Common.{AllLevels, IsBestOrder, IsStuck, IsVerdictOf, AllReady}
use Rattle.task_sheet.proofs.Common.{IsReadyOrder, IsReadySet}
use Rattle.task_sheet.specs.Verdicts.{IsFailure, IsLevel}
use Rattle.task_sheet.proofs.IndexLaws.{same_parts, without-parts, listed-order, listed-among}
use Rattle.task_sheet.proofs.IndexLaws.{IsOrderOf-among, IsOrderOf-head, IsOrderOf-rest}
use Rattle.task_sheet.proofs.PassingLaws.{IsResponseOf-one, Passes-iff_response, IsReason-one}
use Rattle.task_sheet.proofs.LevelLaws.{left_after-part, IsBest-one, AllChosen-best}
use Rattle.task_sheet.proofs.ObstructionLaws.{AllChosen-obstruction, IsObstruction-fails}
use Rattle.task_sheet.proofs.ReadyLaws.{AllRefuted-fails, AllRefuted-from_failures}

-- ---- what a verdict says of all orders
pub IsBestOrder-feasible : (U : List Task) (levels : List LevelData) → IsBestOrder U levels
    → IsFeasible U
IsBestOrder-feasible U levels h = (order_of levels, h.best.passing)

pub IsStuck-infeasible : (U : List Task) → AllTasks U → (members : List FailureData)
    → IsStuck U members → ¬ IsFeasible U
IsStuck-infeasible U valid members h =
    IsObstruction-fails U valid (among (tasks_of members)) h.greatest.obstruction

-- ---- two verdicts are one
same_cons : {x y : ℕ} {xs ys : List ℕ} → x ∷ xs ≡ y ∷ ys → (x ≡ y) × (xs ≡ ys)
same_cons e = (cc, cc)

AllFailures-one : (U : List Task) (L : Indexes) (fails others : List FailureData)
    → tasks_of fails ≡ tasks_of others → AllFailures U L fails
    → AllFailures U L others → fails ≡ others
AllFailures-one U L [] [] same h h' = refl
AllFailures-one U L (f ∷ fs) (g ∷ gs) same h h' =
    let heads = same_cons same in
    let reason = IsReason-one U f.task (without_index L f.task) f.reason g.reason h.0
    (subst (λ i. IsFailure U L (record { task = i; reason = g.reason })) (sym heads.0) h'.0) in
    let rest = AllFailures-one U L fs gs heads.1 h.1 h'.1 in
    λ i. record { task = heads.0 i; reason = reason i } ∷ rest i
AllFailures-one U L fails others same h h' = cc

AllLevels-one : (U : List Task) (L : Indexes) (levels others : List LevelData)
    → order_of levels ≡ order_of others → AllLevels U L levels
    → AllLevels U L others → levels ≡ others
AllLevels-one U L [] [] same h h' = refl
AllLevels-one U L (l ∷ ls) (m ∷ ms) same h h' =
    let heads = same_cons same in
    let response = IsResponseOf-one U l.task (without_index L l.task) l.response m.response
    h.0.response
    (subst (λ i. IsResponseOf U i (without_index L i) m.response) (sym heads.0) h'.0.response) in
    let fails = AllFailures-one U L l.fails m.fails
    (h.0.lesser ∙ ap (λ i. listed_below i L) heads.0 ∙ sym h'.0.lesser) h.0.fails h'.0.fails in
    let rest = AllLevels-one U (without_index L l.task) ls ms heads.1 h.1
    (subst (λ i. AllLevels U (without_index L i) ms) (sym heads.0) h'.1) in
    λ i. record { task = heads.0 i; response = response i; fails = fails i } ∷ rest i
AllLevels-one U L levels others same h h' = cc

pub IsStuck-one : (U : List Task) (members others : List FailureData) → IsStuck U members
    → IsStuck U others → members ≡ others
IsStuck-one U members others h h' =
    let S = among (tasks_of members) in
    let R = among (tasks_of others) in
    let same : S ≡ R = same_parts S R (h'.greatest.greatest S h.greatest.obstruction)
    (h.greatest.greatest R h'.greatest.obstruction) in
    let tasks = h.ranked ∙ ap (λ X. listed_below (length U) X) same ∙ sym h'.ranked in
    AllFailures-one U S members others tasks h.fails
    (subst (λ X. AllFailures U X others) (sym same) h'.fails)

pub IsVerdictOf-one : (U : List Task) → AllTasks U → (v w : VerdictData) → IsVerdictOf U v
    → IsVerdictOf U w → v ≡ w
IsVerdictOf-one U valid (Admitted levels) (Admitted others) h g =
    ap (λ ls. Admitted ls) (AllLevels-one U (all_of U) levels others
    (IsBest-one U (order_of levels) (order_of others) h.best g.best) h.each g.each)
IsVerdictOf-one U valid (Admitted levels) (Infeasible members) h g =
    absurd (IsStuck-infeasible U valid members g (IsBestOrder-feasible U levels h))
IsVerdictOf-one U valid (Infeasible members) (Admitted levels) h g =
    absurd (IsStuck-infeasible U valid members h (IsBestOrder-feasible U levels g))
IsVerdictOf-one U valid (Infeasible members) (Infeasible others) h g =
    ap (λ ms. Infeasible ms) (IsStuck-one U members others h g)

-- ---- a verdict is ready
AllLevels-ready : (U : List Task) → AllTasks U → (L : Indexes) (levels : List LevelData)
    → IsPart L (all_of U) → IsOrderOf L (order_of levels)
    → AllStand U (order_of levels) → AllLevels U L levels → AllReady U L levels
AllLevels-ready U valid L [] part each stand h = tt
AllLevels-ready U valid L (l ∷ levels) part each stand h =
    let H = without_index L l.task in
    let member = IsOrderOf-head L l.task (order_of levels) each in
    let rest = IsOrderOf-rest L l.task (order_of levels) each in
    let in_set : l.task < length U = ltb-true _ _ (part l.task member) in
    let stands =
    subst (λ X. Stands U l.task X) (IsOrderOf-among H (order_of levels) rest) stand.0 in
    let found = (Passes-iff_response U valid l.task H in_set).0 stands.0 in
    let same = IsResponseOf-one U l.task H l.response found.0 h.0.response found.1 in (
      record {
        positive = h.0.response.positive;
        within = omega (arith, same, found.2);
        covers = omega (arith, h.0.response.fixed);
        unbound = stands.1;
        lesser = h.0.lesser;
        refuted = AllRefuted-from_failures U L l.fails h.0.fails;
      },
      AllLevels-ready U valid H levels (λ k is. part k (without-parts L l.task k is).0) rest
          stand.1 h.1,
    )

pub IsBestOrder-ready : (U : List Task) → AllTasks U → (levels : List LevelData)
    → IsBestOrder U levels → IsReadyOrder U levels
IsBestOrder-ready U valid levels h = record {
  each_once = h.best.passing.each_once;
  ready = AllLevels-ready U valid (all_of U) levels (λ k is. is) h.best.passing.each_once
      h.best.passing.each_stands h.each;
}

pub IsStuck-ready : (U : List Task) → (members : List FailureData) → IsStuck U members
    → IsReadySet U members
IsStuck-ready U members h =
    let S = among (tasks_of members) in
    record {
      within = h.greatest.obstruction.within;
      some = h.greatest.obstruction.some;
      distinct = subst (λ ns. IsOrderOf S ns) (sym h.ranked)
          (listed-order (length U) S h.greatest.obstruction.within);
      refuted = AllRefuted-from_failures U S members h.fails;
    }

-- ---- where the climb leads
pub AllFailures-push : (U : List Task) (L : Indexes) (fails : List FailureData) (f : FailureData)
    → AllFailures U L fails → IsFailure U L f
    → AllFailures U L (fails ++ f ∷ [])
AllFailures-push U L [] f h next = (next, tt)
AllFailures-push U L (g ∷ fails) f h next = (h.0, AllFailures-push U L fails f h.1 next)

pub AllLevels-push : (U : List Task) (L : Indexes) (levels : List LevelData) (l : LevelData)
    → AllLevels U L levels
    → IsLevel U (left_after L (order_of levels)) l → AllLevels U L (levels ++ l ∷ [])
AllLevels-push U L [] l h next = (next, tt)
AllLevels-push U L (m ∷ levels) l h next =
    (h.0, AllLevels-push U (without_index L m.task) levels l h.1 next)

pub IsVerdictOf-admitted : (U : List Task) (levels : List LevelData)
    → AllChosen U (all_of U) (order_of levels) → AllLevels U (all_of U) levels
    → ((k : ℕ) → left_after (all_of U) (order_of levels) k ≡ false)
    → IsVerdictOf U (Admitted levels)
IsVerdictOf-admitted U levels chosen each none =
    record { best = AllChosen-best U (order_of levels) chosen none; each = each }

pub IsVerdictOf-infeasible : (U : List Task) → AllTasks U
    → (placed : List ℕ) (members : List FailureData) (k : ℕ) → AllChosen U (all_of U) placed
    → left_after (all_of U) placed k ≡ true
    → tasks_of members ≡ listed_below (length U) (left_after (all_of U) placed)
    → AllFailures U (left_after (all_of U) placed) members → IsVerdictOf U (Infeasible members)
IsVerdictOf-infeasible U valid placed members k chosen some ranked fails =
    let L = left_after (all_of U) placed in
    let same : among (tasks_of members) ≡ L = ap (λ ns. among ns) ranked
    ∙ listed-among (length U) L (left_after-part (all_of U) placed) in
    let stuck : NoneStands U L = λ i member. AllRefuted-fails U valid L members i
    (AllRefuted-from_failures U L members fails) (ap (λ X. X i) same ∙ member) in
    record {
      greatest = subst (λ X. IsGreatestObstruction U X) (sym same)
          (AllChosen-obstruction U valid placed chosen k some stuck);
      ranked = ranked ∙ ap (λ X. listed_below (length U) X) (sym same);
      fails = subst (λ X. AllFailures U X members) (sym same) fails;
    }
