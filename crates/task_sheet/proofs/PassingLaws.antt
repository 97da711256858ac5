-- When a task passes, and when it may stand: the test, the response, the chains, and fewer tasks above.
use Rattle.std.proofs.Common.{◌≡◌, ◌↔◌, ℕ, ◌+◌, ◌-◌, ◌<◌, ◌≤◌, sym, subst, true, false, ◌&&◌, inl}
use Rattle.std.proofs.Common.{inr, List, length, IsTrue, ap, arith}
use Rattle.std.proofs.lemmas.Bool.{cases_Bool, cases_order, both_ways, and_parts, and_from}
use Rattle.std.proofs.lemmas.Bool.{false_from_ne_true, not-true}
use Rattle.task_sheet.proofs.Common.{Task, AllTasks, task_at, Indexes, IsPart, IsFullChain}
use Rattle.task_sheet.proofs.Common.{past_jitter, demand_of, limit_of, IsResponseOf, Passes}
use Rattle.task_sheet.proofs.Common.{must_outrank, must_outrank_any, Stands, ReasonData, IsLeastOver}
use Rattle.task_sheet.proofs.Common.{does_stand}
use Rattle.task_sheet.specs.Responses.{IsResponse, IsChain}
use Rattle.task_sheet.specs.Demand.{does_pass}
use Rattle.task_sheet.specs.Verdicts.{Chain, Over, IsReason}
use Rattle.task_sheet.specs.Ready.{Refutes}
use Rattle.task_sheet.proofs.Below.{some_below-at, some_below-witness, some_below-mono}
use Rattle.task_sheet.proofs.Below.{least_below_at}
use Rattle.task_sheet.proofs.Exchange.{demand-part}
use Rattle.task_sheet.proofs.ResponseLaws.{IsResponse-one, Covers-iff_response, covers, covers-from}
use Rattle.task_sheet.proofs.ResponseLaws.{covers-parts, IsChain-fails, find_full_chain}
use Rattle.task_sheet.proofs.ResponseLaws.{IsFullChain-one}
use Rattle.task_sheet.proofs.DemandLaws.{demand-mono, demand_does_not_fall}

module _ (U : List Task) (i : ℕ) (H : Indexes) where
  pub does_pass-iff : (does_pass U i H ≡ true) ↔ Passes U i H
  unfolding does_pass
  does_pass-iff = (
    λ h.
        let found = some_below-witness (limit_of (task_at U i) + 1) (covers (demand_of U i H)) h in
        let both = covers-parts (demand_of U i H) found.0 found.2 in
        (found.0, both.0, omega (arith, found.1), both.1),
    λ p. some_below-at (limit_of (task_at U i) + 1) (covers (demand_of U i H)) p.0
        (omega (arith, p.2)) (covers-from (demand_of U i H) p.0 p.1 p.3),
  )

  -- a time that is its own demand, with the jitter
  pub IsResponseOf-from : (t : ℕ) → IsResponse (demand_of U i H) t
      → IsResponseOf U i H (t + (task_at U i).jitter)
  IsResponseOf-from t response =
      let same : t + (task_at U i).jitter - (task_at U i).jitter ≡ t = omega arith in
      subst (λ s. IsResponse (demand_of U i H) s) (sym same) response

  -- a response is such a time with the jitter
  pub IsResponseOf-iff : (r : ℕ) → IsResponseOf U i H r
      ↔ ((t : ℕ) × IsResponse (demand_of U i H) t × (r ≡ t + (task_at U i).jitter))
  IsResponseOf-iff r = (
    λ response. (past_jitter (task_at U i) r, response, omega (arith, response.positive)),
    λ found. subst (λ s. IsResponseOf U i H s) (sym found.2) (IsResponseOf-from found.0 found.1),
  )

  -- two responses are one
  pub IsResponseOf-one : (r s : ℕ) → IsResponseOf U i H r → IsResponseOf U i H s → r ≡ s
  IsResponseOf-one r s first second =
      let jitter = (task_at U i).jitter in
      omega (
        arith,
        IsResponse-one (demand_of U i H) (r - jitter) (s - jitter) first second,
        first.positive,
        second.positive,
      )

  -- ---- tasks above which a task must stand
  pub must_outrank_any-at : (k : ℕ) → k < length U → IsTrue (H k) → IsTrue (must_outrank U i k)
      → must_outrank_any U i H ≡ true
  unfolding must_outrank_any
  must_outrank_any-at k lt above named =
      some_below-at (length U) (λ j. H j && must_outrank U i j) k lt (and_from _ _ above named)

  -- of some tasks that bind it, one has the least rank
  least_over : must_outrank_any U i H ≡ true → (k : ℕ) × IsLeastOver U i H k
  unfolding must_outrank_any
  least_over bound =
      let found = least_below_at (length U) (λ j. H j && must_outrank U i j) bound in
      let both = and_parts _ _ found.2 in (
        found.0,
        record {
          in_set = found.1;
          above = both.0;
          named = both.1;
          least = λ j lt above. false_from_ne_true _
              (λ named. both_ways _ (found.3 j lt) (and_from _ _ above named));
        },
      )

  -- a task that is unbound in some tasks is unbound in each part of them
  pub must_outrank_any-part : (G : Indexes) → IsPart H G → must_outrank_any U i G ≡ false → must_outrank_any U i H ≡ false
  unfolding must_outrank_any
  must_outrank_any-part G part free = false_from_ne_true _ (λ bound.
      both_ways _ free (some_below-mono (length U) _ _
      (λ k e. let both = and_parts _ _ e in and_from _ _ (part k both.0) both.1) bound))

  pub does_stand-iff : (does_stand U i H ≡ true) ↔ Stands U i H
  does_stand-iff = (
    λ h.
        let both = and_parts _ _ h in
        (does_pass-iff.0 both.0, not-true (must_outrank_any U i H) both.1),
    λ s. and_from _ _ (does_pass-iff.1 s.0) (rw s.1),
  )

  -- ---- reasons
  pub Refutes-from_reason : (reason : ReasonData) → IsReason U i H reason → Refutes U i H reason
  Refutes-from_reason (Chain numbers) reason = reason.1.chain
  Refutes-from_reason (Over other) reason = (reason.in_set, reason.above, reason.named)

  -- a task that may not stand has a reason
  pub find_reason : ¬ Stands U i H → (reason : ReasonData) × IsReason U i H reason
  find_reason fails = elim (cases_Bool (must_outrank_any U i H)) [
    | inl bound ↦ let over = least_over bound in (Over over.0, over.1)
    | inr free ↦
        let chain = find_full_chain (demand_of U i H) (limit_of (task_at U i))
        (λ passes. fails (passes, free)) in
        (Chain chain.0, (free, chain.1))
  ]

  -- and no other
  pub IsReason-one : (first second : ReasonData) → IsReason U i H first → IsReason U i H second
      → first ≡ second
  IsReason-one (Chain xs) (Chain ys) first second =
      ap Chain (IsFullChain-one _ _ xs ys first.1 second.1)
  IsReason-one (Chain xs) (Over k) first second =
      absurd (both_ways _ first.0 (must_outrank_any-at k second.in_set second.above second.named))
  IsReason-one (Over k) (Chain ys) first second =
      absurd (both_ways _ second.0 (must_outrank_any-at k first.in_set first.above first.named))
  IsReason-one (Over j) (Over k) first second = elim (cases_order j k) [
    | inl e ↦ ap Over e
    | inr apart ↦ elim apart [
      | inl lt ↦ absurd (both_ways _ (second.least j lt first.above) first.named)
      | inr lt ↦ absurd (both_ways _ (first.least k lt second.above) second.named)
    ]
  ]

module _ (U : List Task) (valid : AllTasks U) (i : ℕ) (H : Indexes) where
  pub Passes-iff_response : i < length U → Passes U i H
      ↔ ((r : ℕ) × IsResponseOf U i H r × (r ≤ (task_at U i).deadline))
  Passes-iff_response lt =
      let jitter = (task_at U i).jitter in
      let covers = Covers-iff_response (demand_of U i H) (demand_does_not_fall U valid i H lt)
      (limit_of (task_at U i)) in (
        λ passes.
            let found = covers.0 passes in (
              found.0 + jitter,
              IsResponseOf-from U i H found.0 found.1,
              omega (arith, found.1.positive, found.2),
            ),
        λ found. covers.1 (past_jitter (task_at U i) found.0, found.1, omega (arith, found.2)),
      )

  pub IsChain-refutes : (numbers : List ℕ)
      → IsChain (demand_of U i H) (limit_of (task_at U i)) numbers → ¬ Passes U i H
  IsChain-refutes =
      IsChain-fails (demand_of U i H) (demand-mono U valid i H) (limit_of (task_at U i))

  pub full_chain-iff : (¬ Passes U i H)
      ↔ ((numbers : List ℕ) × IsFullChain (demand_of U i H) (limit_of (task_at U i)) numbers)
  full_chain-iff = (
    find_full_chain (demand_of U i H) (limit_of (task_at U i)),
    λ chain. IsChain-refutes chain.0 chain.1.chain,
  )

  -- ---- standing
  pub Stands-part : (G : Indexes) → IsPart H G → Stands U i G → Stands U i H
  Stands-part G part stands =
      let (t, positive, within, covered) = stands.0 in (
        (t, positive, within, omega (arith, demand-part U valid i H G part t positive, covered)),
        must_outrank_any-part U i H G part stands.1,
      )

  -- what refutes a task
  pub Refutes-fails : (reason : ReasonData) → Refutes U i H reason → ¬ Stands U i H
  Refutes-fails (Chain numbers) chain stands = IsChain-refutes numbers chain stands.0
  Refutes-fails (Over other) over stands =
      both_ways _ stands.1 (must_outrank_any-at U i H other over.0 over.1 over.2)
