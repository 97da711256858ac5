-- Every set has a verdict: the climb from the lowest level up leads to one.
use Rattle.std.proofs.Common.{◌≡◌, ℕ, zero, suc, ◌<◌, ◌≤◌, ◌⊎◌, inl, inr, Bool, true, false, cond}
use Rattle.std.proofs.Common.{◌&&◌, List, [], ◌∷◌, ◌++◌, length, refl, ◌∙◌, ap, arith}
use Rattle.std.proofs.lemmas.Bool.{cases_Bool, both_ways, cond-true, ltb-true, and_parts, and_from}
use Rattle.std.proofs.lemmas.Bool.{false_from_ne_true}
use Rattle.std.proofs.lemmas.List.{map-append}
use Rattle.task_sheet.proofs.Common.{Task, AllTasks, Indexes, IsPart, without_index, listed_below}
use Rattle.task_sheet.proofs.Common.{some_below, does_stand, all_of, Stands, IsFeasible, IsBest}
use Rattle.task_sheet.proofs.Common.{IsGreatestObstruction, IsChosen, left_after, AllChosen}
use Rattle.task_sheet.proofs.Common.{FailureData, LevelData, VerdictData, Admitted, Infeasible}
use Rattle.task_sheet.proofs.Common.{tasks_of, order_of, AllFailures, AllLevels, IsVerdictOf}
use Rattle.task_sheet.proofs.Below.{find_below, sum_below-le-term, some_below-at, least_below_at}
use Rattle.task_sheet.proofs.IndexLaws.{without-parts, count_below, without-fewer}
use Rattle.task_sheet.proofs.PassingLaws.{Passes-iff_response, does_stand-iff, find_reason}
use Rattle.task_sheet.proofs.VerdictLaws.{AllFailures-push, IsVerdictOf-admitted}
use Rattle.task_sheet.proofs.VerdictLaws.{IsVerdictOf-infeasible}

-- none of L below n may stand below the others of L
unfoldable pub NoneBelow : List Task → Indexes → ℕ → Type 0
NoneBelow U L n = (j : ℕ) → j < n → L j ≡ true → ¬ Stands U j (without_index L j)

-- the task of least rank of L that may stand below the others of L, or none below n
pub find_chosen : (U : List Task) (L : Indexes) (n : ℕ) → ((i : ℕ) × (i < n) × IsChosen U L i)
    ⊎ NoneBelow U L n
unfolding NoneBelow
find_chosen U L n =
    let p : ℕ → Bool = λ j. L j && does_stand U j (without_index L j) in
    let passes : (j : ℕ) → L j ≡ true → Stands U j (without_index L j) → p j ≡ true =
    λ j member stands. and_from _ _ member ((does_stand-iff U j (without_index L j)).1 stands) in
    elim (cases_Bool (some_below n p)) [
      | inl some ↦
          let at = least_below_at n p some in
          let both = and_parts (L at.0) _ at.2 in
          inl (
            at.0,
            at.1,
            record {
              member = both.0;
              stands = (does_stand-iff U at.0 (without_index L at.0)).0 both.1;
              first = λ j lt member stands. both_ways _ (at.3 j lt) (passes j member stands);
            },
          )
      | inr none ↦ inr (λ j lt member stands.
          both_ways _ none (some_below-at n p j lt (passes j member stands)))
    ]

-- ---- the reasons of those that fail
abbrev Fails : List Task → Indexes → List ℕ → Type 0
Fails U L tasks = (fails : List FailureData) × (tasks_of fails ≡ tasks) × AllFailures U L fails

fails_below : (U : List Task) (L : Indexes) (n : ℕ) → NoneBelow U L n → Fails U L (listed_below n L)
unfolding NoneBelow
fails_below U L zero none = ([], refl, tt)
fails_below U L (suc n) none =
    let before = fails_below U L n (λ j lt. none j (omega arith)) in
    by (L n) refl before
  where
    by : (b : Bool) → L n ≡ b → Fails U L (listed_below n L)
        → Fails U L (cond b (listed_below n L ++ n ∷ []) (listed_below n L))
    by true member before =
        let reason = find_reason U n (without_index L n) (none n (omega arith) member) in
        let f : FailureData = record { task = n; reason = reason.0 } in (
          before.0 ++ f ∷ [],
          map-append (λ (f : FailureData). f.task) before.0 (f ∷ [])
              ∙ ap (λ ns. ns ++ n ∷ []) before.1,
          AllFailures-push U L before.0 f before.2 reason.1,
        )
    by false out before = before

-- where the levels lead: to the end, or to a rest of which none may stand below the others
record Climbed (U : List Task) (L : Indexes) : Type 0 where
  levels : List LevelData
  chosen : AllChosen U L (order_of levels)
  each : AllLevels U L levels
  end : ((k : ℕ) → left_after L (order_of levels) k ≡ false)
      ⊎ (((k : ℕ) × (left_after L (order_of levels) k ≡ true))
      × NoneBelow U (left_after L (order_of levels)) (length U))

module _ (U : List Task) (valid : AllTasks U) where
  climb : (fuel : ℕ) (L : Indexes) → IsPart L (all_of U) → count_below (length U) L ≤ fuel
      → Climbed U L
  unfolding NoneBelow
  climb zero L part few = record {
    levels = [];
    chosen = tt;
    each = tt;
    end = inl (λ k. false_from_ne_true (L k) (λ member. omega (
      arith,
      sum_below-le-term (length U) (λ k. cond (L k) 1 0) k
          (ltb-true k (length U) (part k member)),
      cond-true {A = ℕ} (L k) 1 0 member,
    )));
  }
  climb (suc fuel) L part few =
      elim (find_chosen U L (length U)) [
        | inl found ↦
            let i = found.0 in
            let response =
            (Passes-iff_response U valid i (without_index L i) found.1).0 found.2.stands.0 in
            let fails = fails_below U L i found.2.first in
            let rest = climb fuel (without_index L i) (λ k h. part k (without-parts L i k h).0)
            (omega (arith, without-fewer (length U) L i found.1 found.2.member)) in
            record {
              levels = record { task = i; response = response.0; fails = fails.0 } ∷ rest.levels;
              chosen = (found.2, rest.chosen);
              each = (
                record { response = response.1; lesser = fails.1; fails = fails.2 },
                rest.each,
              );
              end = rest.end;
            }
        | inr none ↦ record {
          levels = [];
          chosen = tt;
          each = tt;
          end = elim (find_below (length U) L) [
            | inl some ↦ inr ((some.0, some.2), none)
            | inr empty ↦ inl (λ k. false_from_ne_true (L k)
                (λ member. both_ways _ (empty k (ltb-true k (length U) (part k member))) member))
          ];
        }
      ]

  pub find_verdict : (v : VerdictData) × IsVerdictOf U v
  find_verdict =
      let climbed = climb (count_below (length U) (all_of U)) (all_of U) (λ k h. h) (omega arith) in
      let left = left_after (all_of U) (order_of climbed.levels) in
      elim climbed.end [
        | inl none ↦ (
          Admitted climbed.levels,
          IsVerdictOf-admitted U climbed.levels climbed.chosen
              climbed.each none,
        )
        | inr stuck ↦
            let fails = fails_below U left (length U) stuck.1 in (
              Infeasible fails.0,
              IsVerdictOf-infeasible U valid (order_of climbed.levels) fails.0
                  stuck.0.0 climbed.chosen stuck.0.1 fails.1 fails.2,
            )
      ]

  best_of : (v : VerdictData) → IsVerdictOf U v → ((order : List ℕ) × IsBest U order)
      ⊎ ((S : Indexes) × IsGreatestObstruction U S)
  best_of (Admitted levels) h = inl (order_of levels, h.best)
  best_of (Infeasible members) h = inr (_, h.greatest)

  pub best_or_obstructed : ((order : List ℕ) × IsBest U order)
      ⊎ ((S : Indexes) × IsGreatestObstruction U S)
  best_or_obstructed = best_of find_verdict.0 find_verdict.1

  -- where no order passes, there is a greatest obstruction
  pub greatest_obstruction : ¬ IsFeasible U → (G : Indexes) × IsGreatestObstruction U G
  greatest_obstruction none = elim best_or_obstructed [
    | inl best ↦ absurd (none (best.0, best.1.passing))
    | inr greatest ↦ greatest
  ]
