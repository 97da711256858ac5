-- The certificate of a verdict is accepted.
use Rattle.std.proofs.Common.{◌≡◌, ℕ, ◌+◌, ◌<◌, ◌≤◌, true, false, cond, nat_lt, List, [], ◌∷◌, length}
use Rattle.std.proofs.Common.{Some, None, refl, sym, ◌∙◌, ap, subst, arith}
use Rattle.std.specs.Prelude.{unwrap_or}
use Rattle.std.specs.List.{AllByRecursion}
use Rattle.std.proofs.lemmas.Bool.{lt-ltb, ltb-true}
use Rattle.task_sheet.proofs.Common.{Task, task_at, IsTaskSet, Indexes, IsPart, among}
use Rattle.task_sheet.proofs.Common.{without_index, all_of, IsOrderOf, ReasonData, FailureData}
use Rattle.task_sheet.proofs.Common.{LevelData, VerdictData, Admitted, Infeasible, tasks_of}
use Rattle.task_sheet.proofs.Common.{order_of, IsVerdictOf, AllReady, IsReadySet}
use Rattle.task_sheet.specs.Verdicts.{Chain, Over}
use Rattle.task_sheet.specs.Ready.{time_of}
use Rattle.task_sheet.proofs.TaskLaws.{AllTasks-from_set, place_of_name}
use Rattle.task_sheet.proofs.IndexLaws.{IsOrderOf-head, IsOrderOf-rest, without-part_of}
use Rattle.task_sheet.proofs.IndexLaws.{order-below}
use Rattle.task_sheet.proofs.VerdictLaws.{IsBestOrder-ready, IsStuck-ready}
use Rattle.certificate.specs.CertificateOf.{reason_named, fails_named, levels_named, body_named}
use Rattle.certificate.specs.CertificateOf.{certificate_of, chains_shown, shows_chains, IsKnownReason, IsKnownFail}
use Rattle.chain_tables.specs.Chains.{ChainData}
use Rattle.cert_checker.specs.Numbers.{IsChainOf, numbers_of}
use Rattle.cert_checker.proofs.NumberLaws.{number-enough, numbers-plain}
use Rattle.certificate.specs.Versions.{version_for}
use Rattle.certificate.specs.declared.version.CertVersion.{CertVersion}
use Rattle.certificate.specs.declared.version.CertVersion.TheVariants.{First, Second, Fourth, Fifth}
use Rattle.certificate.proofs.VerdictSpelling.{fails-below, fails-told, verdict-spelled}
use Rattle.certificate.proofs.ReadingLaws.{reads_back}
use Rattle.cert_checker.specs.Ready.{task_by_name, reason_by_index, failures_of, levels_of}
use Rattle.cert_checker.specs.Ready.{may_serve, AreReadyChains, IsReadyBody, IsReady}
use Rattle.cert_checker.specs.Answers.{kind_of, kind_of_verdict, IsAccepted}
use Rattle.cert_checker.proofs.ReadyLaws.{faultless}

-- ---- the names of a set are those of its tasks
-- each version serves the sets that need it
serves-own : (version : CertVersion) → may_serve version version ≡ true
serves-own First = refl
serves-own Second = refl
serves-own Fourth = refl
serves-own Fifth = refl

-- the response is its time and the jitter
response-own : (U : List Task) (l : LevelData) → 1 ≤ time_of U l
    → time_of U l + (task_at U l.task).jitter ≡ l.response
response-own U l positive = omega (arith, positive)

module _ (U : List Task) (set : IsTaskSet U) where
  pub task-own : (k : ℕ) → k < length U → task_by_name U (task_at U k).name ≡ k
  task-own k lt =
      let at = place_of_name U set.distinct k lt in
      let found : nat_lt k (length U) ≡ true = lt-ltb k (length U) lt in
      ap (λ (m : ℕ). unwrap_or (cond (nat_lt m (length U)) (Some m) None) (length U)) at
      ∙ rw found refl

  reason-own : (reason : ReasonData) → IsKnownReason (length U) reason
      → reason_by_index U (reason_named U reason) ≡ reason
  reason-own (Chain numbers) known = refl
  reason-own (Over other) known = ap Over (task-own other known)

  failures-own : (fails : List FailureData) → AllByRecursion (IsKnownFail (length U)) fails
      → failures_of U (fails_named U fails) ≡ fails
  failures-own [] known = refl
  failures-own (f ∷ fails) known = rw (
    task-own f.task known.0.task,
    reason-own f.reason known.0.reason,
    failures-own fails known.1,
  ) refl

  levels-own : (L : Indexes) (levels : List LevelData) → IsOrderOf L (order_of levels)
      → IsPart L (all_of U) → AllReady U L levels → levels_of U (levels_named U levels) ≡ levels
  levels-own L [] each part ready = refl
  levels-own L (l ∷ levels) each part ready =
      let lt : l.task < length U = ltb-true l.task (length U)
      (part l.task (IsOrderOf-head L l.task (order_of levels) each)) in
      let below = fails-below (length U) L l.task (tasks_of l.fails) lt ready.0.lesser in
      rw (
        task-own l.task lt,
        response-own U l ready.0.positive,
        failures-own l.fails (fails-told U set false L l.fails below ready.0.refuted).0,
        levels-own (without_index L l.task) levels (IsOrderOf-rest L l.task (order_of levels) each)
            (without-part_of (length U) L l.task part) ready.1,
      ) refl

  -- the numbers of the chains are their bounds
  numbers-ready : (levels : List LevelData) → IsOrderOf (all_of U) (order_of levels)
      → (chains : List ChainData) → AllByRecursion (IsChainOf U) chains
      → AreReadyChains U levels chains (numbers_of U chains (Admitted levels))
  numbers-ready levels each [] are = tt
  numbers-ready levels each (c ∷ chains) are =
      (refl, number-enough U levels each c are.0, numbers-ready levels each chains are.1)

  body-ready : (chains : List ChainData) (v : VerdictData) → AllByRecursion (IsChainOf U) chains
      → IsVerdictOf U v
      → IsReadyBody U chains (body_named U v) (chains_shown (body_named U v) (numbers_of U chains v))
  body-ready chains (Admitted levels) are h =
      let ready = IsBestOrder-ready U (AllTasks-from_set U set) levels h in
      let own = levels-own (all_of U) levels ready.each_once (λ k is. is) ready.ready in
      let chained = numbers-ready levels ready.each_once chains are in
      rw own (ready, chained)
  body-ready chains (Infeasible members) are h =
      let ready = IsStuck-ready U members h in
      let L = among (tasks_of members) in
      let known = (fails-told U set false L members (order-below (length U) L (tasks_of members)
      ready.distinct ready.within) ready.refuted).0 in
      subst (IsReadySet U) (sym (failures-own members known)) ready

  same-kind : (v : VerdictData) → kind_of (body_named U v) ≡ kind_of_verdict v
  same-kind (Admitted levels) = refl
  same-kind (Infeasible members) = refl

  -- numbers are shown where there are chains
  same-shown : (chains : List ChainData) (v : VerdictData)
      → shows_chains (body_named U v) (numbers_of U chains v) ≡ shows_chains (body_named U v) chains
  same-shown [] (Admitted levels) = refl
  same-shown (c ∷ chains) (Admitted levels) = refl
  same-shown chains (Infeasible members) = refl

  pub verdict-accepted : (chains : List ChainData) (v : VerdictData)
      → AllByRecursion (IsChainOf U) chains → IsVerdictOf U v
      → IsAccepted U chains v (certificate_of U v (numbers_of U chains v))
  verdict-accepted chains v are h =
      let numbers = numbers_of U chains v in
      let c = certificate_of U v numbers in
      let spelled = verdict-spelled U set v numbers h (numbers-plain U set chains v are h) in
      let shown = same-shown chains v in
      let version : may_serve (version_for (shows_chains (body_named U v) numbers) U)
      (version_for (shows_chains (body_named U v) chains) U) ≡ true =
      rw shown (serves-own (version_for (shows_chains (body_named U v) chains) U)) in
      let ready : IsReady U chains c =
      record { version = version; body = body-ready chains v are h } in
      record {
        spelled = spelled;
        read_back = reads_back c spelled;
        ready = ready;
        faultless = (faultless U chains c).1 ready;
        kind = same-kind v;
      }
