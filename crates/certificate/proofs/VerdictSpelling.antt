-- The certificate of a verdict has a spelling.
use Rattle.std.proofs.Common.{◌≡◌, ℕ, ◌<◌, ◌≤◌, Bool, true, false, List, [], ◌∷◌}
use Rattle.std.proofs.Common.{length, All, refl, sym, subst, arith}
use Rattle.std.specs.List.{AllByRecursion, list_any}
use Rattle.std.proofs.lemmas.Bool.{ltb-true}
use Rattle.std.proofs.lemmas.List.{length-map}
use Rattle.std.proofs.lemmas.List.Elements.{All-from_recursion}
use Rattle.std.proofs.lemmas.List.Folds.{list_any_at}
use Rattle.task_sheet.proofs.Common.{IsName, Task, no_task, outranks_task, task_at, IsTaskSet}
use Rattle.task_sheet.proofs.Common.{Indexes, IsPart, without_index, among, listed_below, ChainFrom}
use Rattle.task_sheet.proofs.Common.{demand_of, limit_of, all_of, must_outrank, IsOrderOf}
use Rattle.task_sheet.proofs.Common.{ReasonData, FailureData, LevelData, VerdictData, Admitted}
use Rattle.task_sheet.proofs.Common.{Infeasible, tasks_of, order_of, IsBestOrder, IsStuck}
use Rattle.task_sheet.proofs.Common.{IsVerdictOf, AllReady}
use Rattle.task_sheet.specs.Demand.{has_interrupts}
use Rattle.task_sheet.specs.Ready.{Refutes, AllRefuted}
use Rattle.task_sheet.specs.Verdicts as verdict
use Rattle.task_sheet.proofs.IndexLaws.{without-part_of, IsOrderOf-head, IsOrderOf-rest}
use Rattle.task_sheet.proofs.IndexLaws.{order-below, order-few, listed-below}
use Rattle.task_sheet.proofs.TaskLaws.{valid_at, AllTasks-from_set}
use Rattle.task_sheet.proofs.DemandFits.{limit-fits, demand-fits}
use Rattle.task_sheet.proofs.VerdictLaws.{IsBestOrder-ready, IsStuck-ready}
use Rattle.certificate.specs.Body.{Over, IsShort, IsReasonText, IsFailText, IsLevelText, IsBodyText}
use Rattle.certificate.specs.Body.{HasSpelling, Best, NoOrder, IsChainText, AreChainsText, may_chain}
use Rattle.certificate.specs.declared.value.CertChain.{CertChain}
use Rattle.certificate.specs.declared.version.CertVersion.{CertVersion}
use Rattle.certificate.specs.declared.version.CertVersion.TheVariants.{First, Second, Fourth, Fifth}
use Rattle.certificate.specs.Versions.{some_bound, version_for}
use Rattle.certificate.specs.CertificateOf.{reason_named, fail_named, fails_named, level_named}
use Rattle.certificate.specs.CertificateOf.{levels_named, body_named, shows_chains, certificate_of, IsKnownReason}
use Rattle.certificate.specs.CertificateOf.{IsKnownFail, IsKnownLevel}

-- ---- tasks of the set
-- failures of the tasks of L below the chosen one name tasks of the set
pub fails-below : (n : ℕ) (L : Indexes) (chosen : ℕ) (ks : List ℕ) → chosen < n
    → ks ≡ listed_below chosen L → AllByRecursion (λ k. k < n) ks
fails-below n L chosen ks lt lesser = subst (AllByRecursion (λ k. k < n)) (sym lesser)
    (listed-below chosen n L (omega arith))

-- ---- names and numbers
module _ (U : List Task) (set : IsTaskSet U) where
  climb-short : (i : ℕ) (H : Indexes) (a : ℕ) (bs : List ℕ) → i < length U → IsShort a
      → ChainFrom (demand_of U i H) (limit_of (task_at U i)) a bs → AllByRecursion IsShort (a ∷ bs)
  climb-short i H a [] lt short chain = (short, tt)
  climb-short i H a (b ∷ bs) lt short chain =
      let limit = limit-fits U set i lt in
      let fits = demand-fits U set i H a lt (omega (arith, limit, chain.0)) in
      (short, climb-short i H b bs lt (omega (arith, fits, chain.2)) chain.3)

  -- where a task of the set must stand above another one of it, the second version serves
  bound_shows : (i k : ℕ) → i < length U → k < length U → must_outrank U i k ≡ true
      → some_bound U ≡ true
  unfolding some_bound
  bound_shows i k lt within named =
      list_any_at (λ (t : Task). list_any (outranks_task t) U) U i no_task lt
      (list_any_at (outranks_task (task_at U i)) U k no_task within named)

  module _ (shows : Bool) where
    abbrev version : CertVersion
    version = version_for shows U

    -- there a name is a reason, in each version from the second on
    name-text : (other : List ℕ) → some_bound U ≡ true → IsName other
        → IsReasonText version (Over other)
    name-text other bound named = by shows (has_interrupts U) refl
      where
        by : (s b : Bool) → has_interrupts U ≡ b → IsReasonText (version_for s U) (Over other)
        by true b is = named
        by false true is = rw is named
        by false false is = rw (is, bound) named

    reason-told : (i : ℕ) (H : Indexes) (reason : ReasonData) → i < length U → Refutes U i H reason
        → IsKnownReason (length U) reason × IsReasonText (version) (reason_named U reason)
    reason-told i H (verdict.Chain []) lt chain = absurd chain
    reason-told i H (verdict.Chain (a ∷ bs)) lt chain =
        (tt, (omega arith, climb-short i H a bs lt (omega (arith, chain.0)) chain.1))
    reason-told i H (verdict.Over other) lt over = (
      over.0,
      name-text (task_at U other).name (bound_shows i other lt over.0 over.2)
          (valid_at U other set over.0).named,
    )

    -- failures name tasks of the set, and have a spelling
    pub fails-told : (L : Indexes) (fails : List FailureData)
        → AllByRecursion (λ k. k < length U) (tasks_of fails) → AllRefuted U L fails
        → AllByRecursion (IsKnownFail (length U)) fails
        × AllByRecursion (IsFailText (version)) (fails_named U fails)
    fails-told L [] known refuted = (tt, tt)
    fails-told L (f ∷ fails) known refuted =
        let reason = reason-told f.task (without_index L f.task) f.reason known.0 refuted.0 in
        let others = fails-told L fails known.1 refuted.1 in (
          (record { task = known.0; reason = reason.0 }, others.0),
          (record { name = (valid_at U f.task set known.0).named; reason = reason.1 }, others.1),
        )

    levels-each : (L : Indexes) (levels : List LevelData) → IsOrderOf L (order_of levels)
        → IsPart L (all_of U) → AllReady U L levels → AllByRecursion (IsKnownLevel U) levels
        × AllByRecursion (IsLevelText (version)) (levels_named U levels)
    levels-each L [] each part ready = (tt, tt)
    levels-each L (l ∷ levels) each part ready =
        let lt : l.task < length U = ltb-true l.task (length U)
        (part l.task (IsOrderOf-head L l.task (order_of levels) each)) in
        let fails = fails-told L l.fails (fails-below (length U) L l.task (tasks_of l.fails) lt
        ready.0.lesser) ready.0.refuted in
        let others = levels-each (without_index L l.task) levels
        (IsOrderOf-rest L l.task (order_of levels) each) (without-part_of (length U) L l.task part)
        ready.1 in (
          (
            record {
              task = lt;
              late = omega (arith, ready.0.positive);
              fails = All-from_recursion (IsKnownFail (length U)) l.fails fails.0;
            },
            others.0,
          ),
          (
            record {
              name = (valid_at U l.task set lt).named;
              short = omega (arith, ready.0.within, limit-fits U set l.task lt);
              fails = fails.1;
            },
            others.1,
          ),
        )

    -- the levels of the best order
    pub levels-told : (levels : List LevelData) → IsBestOrder U levels
        → All (IsKnownLevel U) levels × IsBodyText (version) (Best (levels_named U levels))
    levels-told levels h =
        let ready = IsBestOrder-ready U (AllTasks-from_set U set) levels h in
        let each = levels-each (all_of U) levels ready.each_once (λ k h. h) ready.ready in
        let few : length (levels_named U levels) ≤ 32 = omega (
          arith,
          order-few (length U) (all_of U) (order_of levels) ready.each_once (λ k h. h),
          length-map levels (level_named U),
          length-map levels (λ (l : LevelData). l.task),
          set.few,
        ) in
        (All-from_recursion (IsKnownLevel U) levels each.0, (few, each.1))

    -- the members of the greatest obstruction
    pub members-told : (members : List FailureData) → IsStuck U members
        → All (IsKnownFail (length U)) members
        × IsBodyText (version) (NoOrder (fails_named U members))
    members-told members h =
        let ready = IsStuck-ready U members h in
        let L = among (tasks_of members) in
        let each = fails-told L members (order-below (length U) L (tasks_of members) ready.distinct
        ready.within) ready.refuted in
        let few : length (fails_named U members) ≤ 32 = omega (
          arith,
          order-few (length U) L (tasks_of members) ready.distinct ready.within,
          length-map members (fail_named U),
          length-map members (λ (f : FailureData). f.task),
          set.few,
        ) in
        (All-from_recursion (IsKnownFail (length U)) members each.0, (few, each.1))

  -- chains are shown behind a best order alone
  chains-told : (v : VerdictData) (chains : List CertChain) → AllByRecursion IsChainText chains
      → AreChainsText (may_chain (certificate_of U v chains).version (body_named U v))
      (certificate_of U v chains).chains
  chains-told (Admitted levels) [] fits = by (may_chain (version_for false U) (Best (levels_named U levels)))
    where
      by : (may : Bool) → AreChainsText may []
      by true = tt
      by false = refl
  chains-told (Admitted levels) (c ∷ chains) fits = fits
  chains-told (Infeasible members) chains fits = by (version_for false U)
    where
      by : (v : CertVersion) → AreChainsText (may_chain v (NoOrder (fails_named U members))) []
      by First = refl
      by Second = refl
      by Fourth = refl
      by Fifth = refl

  pub verdict-spelled : (v : VerdictData) (chains : List CertChain) → IsVerdictOf U v
      → AllByRecursion IsChainText chains → HasSpelling (certificate_of U v chains)
  verdict-spelled (Admitted levels) chains h fits = record {
    body = (levels-told (shows_chains (Best (levels_named U levels)) chains) levels h).1;
    chains = chains-told (Admitted levels) chains fits;
  }
  verdict-spelled (Infeasible members) chains h fits = record {
    body = (members-told false members h).1;
    chains = chains-told (Infeasible members) chains fits;
  }
