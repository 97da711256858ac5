-- The failures of a level's candidates, gathered by rank.
use Rattle.std.proofs.Common.{◌≡◌, ℕ, ◌+◌, ◌<◌, ◌≤◌, List, [], ◌∷◌, ◌++◌, length, set, get_or}
use Rattle.std.proofs.Common.{Option, None, IsTrue, IsFalse, sym, ◌∙◌, ap, subst, arith, add-one}
use Rattle.std.proofs.Common.{below_more}
use Rattle.std.proofs.lemmas.Bool.{ltb-true, both_ways}
use Rattle.std.proofs.lemmas.List.{map_push, length-set, get_or-set_other}
use Rattle.task_sheet.proofs.Common.{Task, IsTaskSet, Indexes, IsPart, without_index, listed_below}
use Rattle.task_sheet.proofs.Common.{all_of, Stands, ReasonData, FailureData, tasks_of, AllFailures}
use Rattle.task_sheet.specs.Verdicts.{IsFailure}
use Rattle.task_sheet.proofs.VerdictLaws.{AllFailures-push}
use Rattle.assignment.specs.declared.outcome.Outcome.{Outcome}
use Rattle.assignment.specs.Levels.{IsObstructed}
use Rattle.assignment.proofs.LevelLaws.{fails_by_reason}

pub listed_below-member : (n : ℕ) (L : Indexes) → IsTrue (L n)
    → listed_below (n + 1) L ≡ listed_below n L ++ n ∷ []
listed_below-member n L member = rw add-one (rw member)

pub listed_below-other : (n : ℕ) (L : Indexes) → IsFalse (L n)
    → listed_below (n + 1) L ≡ listed_below n L
listed_below-other n L other = rw add-one (rw other)

-- the failures of the candidates below n are gathered, and the other answers are as they were
pub record IsGathering (U : List Task) (L : Indexes) (given answers : List (Option Outcome))
    (fails : List FailureData) (n : ℕ) : Type 0 where
  pub full : length answers ≡ length U
  pub rest : (j : ℕ) → n ≤ j → get_or answers j None ≡ get_or given j None
  pub stuck : (j : ℕ) → j < n → IsTrue (L j) → ¬ Stands U j (without_index L j)
  pub ranked : tasks_of fails ≡ listed_below n L
  pub each : AllFailures U L fails

pub IsGathering-skip : (U : List Task) (L : Indexes) (given answers : List (Option Outcome))
    (fails : List FailureData) (n : ℕ) → IsGathering U L given answers fails n → IsFalse (L n)
    → IsGathering U L given answers fails (n + 1)
IsGathering-skip U L given answers fails n so out = record {
  full = so.full;
  rest = λ j le. so.rest j (omega arith);
  stuck = below_more (λ j. IsTrue (L j) → ¬ Stands U j (without_index L j)) n so.stuck
      (λ member. absurd (both_ways (L n) out member));
  ranked = so.ranked ∙ sym (listed_below-other n L out);
  each = so.each;
}

pub IsGathering-fail : (U : List Task) (L : Indexes) (given answers taken : List (Option Outcome))
    (fails fails' : List FailureData) (n : ℕ) (reason : ReasonData) → IsTaskSet U
    → IsGathering U L given answers fails n → IsTrue (L n) → taken ≡ set answers n None
    → fails' ≡ fails ++ (record { task = n; reason = reason }) ∷ [] → IsFailure U L
    (record { task = n; reason = reason }) → IsGathering U L given taken fails' (n + 1)
IsGathering-fail U L given answers taken fails fails' n reason valid so member is is' failure =
    record {
      full = ap length is ∙ length-set answers n None ∙ so.full;
      rest = λ j le.
          let ne : j ≡ n → ⊥ = λ e. omega arith in
          ap (λ (xs : List (Option Outcome)). get_or xs j None) is
          ∙ get_or-set_other answers n j None None ne ∙ so.rest j (omega arith);
      stuck = below_more (λ j. IsTrue (L j) → ¬ Stands U j (without_index L j)) n so.stuck
          (λ _. fails_by_reason U n (without_index L n) reason valid failure);
      ranked = ap tasks_of is' ∙ map_push (λ (f : FailureData). f.task) fails _
          ∙ ap (λ ns. ns ++ n ∷ []) so.ranked ∙ sym (listed_below-member n L member);
      each =
          subst (λ fs. AllFailures U L fs) (sym is') (AllFailures-push U L fails _ so.each failure);
    }

pub IsGathering-all : (U : List Task) (L : Indexes) (given answers : List (Option Outcome))
    (fails : List FailureData) → IsGathering U L given answers fails (length U)
    → IsPart L (all_of U) → (k : ℕ) × IsTrue (L k) → IsObstructed U L fails
IsGathering-all U L given answers fails so part some = record {
  obstruction = record {
    within = part;
    some = some;
    stuck =
        λ i member. so.stuck i (ltb-true i (length U) (part i member)) member;
  };
  ranked = so.ranked;
  each = so.each;
}
