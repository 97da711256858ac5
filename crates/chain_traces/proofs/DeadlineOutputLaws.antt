-- What stands at a time, found from what stands at an earlier one.
use Rattle.std.proofs.Common.{ℕ, ◌≡◌, ◌≤◌, refl, inl, inr, arith, List, [], ◌∷◌, Option}
use Rattle.std.proofs.lemmas.Bool.{cases_lt, le-leb, lt-leb}
use Rattle.chain_traces.specs.DeadlineOutputs.{later_than, standing}
use Rattle.chain_runs.specs.declared.outputs.ChainOutput.{ChainOutput}

pub standing_on : (s t : ℕ) (found : Option ℕ) (os : List ChainOutput) → s ≤ t
    → standing t (standing s found os) (later_than s os) ≡ standing t found os
standing_on s t found [] le = refl
standing_on s t found (o ∷ os) le = elim (cases_lt s o.finish) [
  | inl late ↦ rw (lt-leb o.finish s late) refl
  | inr by ↦
      let too : o.finish ≤ t = omega (arith, by, le) in
      rw (le-leb o.finish s by, le-leb o.finish t too) (standing_on s t o.sample os le)
]

pub later_on : (s t : ℕ) (os : List ChainOutput) → s ≤ t
    → later_than t (later_than s os) ≡ later_than t os
later_on s t [] le = refl
later_on s t (o ∷ os) le = elim (cases_lt s o.finish) [
  | inl late ↦ rw (lt-leb o.finish s late) refl
  | inr by ↦
      let too : o.finish ≤ t = omega (arith, by, le) in
      rw (le-leb o.finish s by, le-leb o.finish t too) (later_on s t os le)
]
