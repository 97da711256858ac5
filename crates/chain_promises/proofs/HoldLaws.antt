-- A chain's printed bound holds.
use Rattle.std.proofs.Common.{◌≡◌, ℕ, ◌≤◌, Bool, true, false, List, [], ◌∷◌, Option, Some, None, is_some}
use Rattle.std.proofs.Common.{refl, sym, ◌∙◌, arith, true≢false, cond}
use Rattle.std.specs.List.{list_all}
use Rattle.std.proofs.lemmas.Bool.{and_parts}
use Rattle.std.proofs.lemmas.Option.{none-some, same_Some}
use Rattle.task_sheet.proofs.Common.{Task}
use Rattle.ceiling_kernel.specs.Releases.{jobs_of}
use Rattle.ceiling_kernel.proofs.Common.{Job, Node, node_in}
use Rattle.chains.specs.Bounds.{AllAct, bound_of}
use Rattle.chains.specs.Handovers.{RespondsBy}
use Rattle.chains.specs.Walks.{bound_by}
use Rattle.chains.specs.Parts.{bound_in, has_response, order_of, response_in, steps_of, time_in}
use Rattle.chains.specs.declared.bounds.Level.{Level}
use Rattle.chains.specs.declared.bounds.Writes.{Writes}
use Rattle.chains.proofs.AgeLaws.{ages_law}
use Rattle.chains.proofs.ReactionLaws.{reactions_law}
use Rattle.chains.proofs.OffsetLaws.{offsets_law, steady_bound_law}
use Rattle.chain_runs.proofs.AgeLaws.{within_law}
use Rattle.cert_checker.specs.Bounded.{AllWork}
use Rattle.chain_promises.specs.Promised.{AreResponses, HoldsInRuns, HoldsWhereSimulated}

module _ (U : List Task) (levels : List Level) where
  abbrev node : Node
  node = node_in U (order_of levels)

  -- a chain with a bound has responses, and the bound is that of the laws
  record HasBound (writes : Writes) (offsets : List ℕ) (first : ℕ) (others : List ℕ) (bound : ℕ) : Type 0
    where
      all : list_all (has_response levels) (first ∷ others) ≡ true
      number : bound_by (steps_of writes offsets node (time_in levels) (first ∷ others)) ≡ Some bound

  has-bound : (writes : Writes) (offsets : List ℕ) (first : ℕ) (others : List ℕ) (bound : ℕ)
      → bound_in writes offsets U levels (first ∷ others) ≡ Some bound
      → HasBound writes offsets first others bound
  has-bound writes offsets first others bound is =
      by (list_all (has_response levels) (first ∷ others)) _ refl refl is
    where
      by : (b : Bool) (o : Option ℕ) → list_all (has_response levels) (first ∷ others) ≡ b
          → bound_by (steps_of writes offsets node (time_in levels) (first ∷ others)) ≡ o
          → cond b o None ≡ Some bound → HasBound writes offsets first others bound
      by true o all to same = record { all = all; number = to ∙ same }
      by false o all to same = absurd (none-some bound same)

  pub number : (writes : Writes) (first : ℕ) (others : List ℕ) (bound : ℕ)
      → bound_in writes [] U levels (first ∷ others) ≡ Some bound
      → bound ≡ bound_of writes node (time_in levels) first others
  number writes first others bound is =
      let steady = steady_bound_law writes node (time_in levels) first others in
      same_Some _ _ (sym (has-bound writes [] first others bound is).number ∙ steady)

  pub no_longer : (writes : Writes) (offsets : List ℕ) (first : ℕ) (others : List ℕ) (bound : ℕ)
      → bound_in writes offsets U levels (first ∷ others) ≡ Some bound
      → bound ≤ bound_of writes node (time_in levels) first others
  no_longer writes offsets first others bound is =
      offsets_law writes offsets node (time_in levels) first others bound
      (has-bound writes offsets first others bound is).number

  module _ (are : AreResponses U levels) where
    -- the response that a level gives is one with which its task passes
    responds : (i : ℕ) → has_response levels i ≡ true → RespondsBy node i (time_in levels i)
    responds i has = by (response_in levels i) refl has
      where
        by : (o : Option ℕ) → response_in levels i ≡ o → is_some o ≡ true
            → RespondsBy node i (time_in levels i)
        by None is some = absurd (true≢false (sym some))
        by (Some r) is some = rw is (are.each i r is)

    all-act : (jobs : List Job) (first : ℕ) (others : List ℕ)
        → list_all (has_response levels) (first ∷ others) ≡ true → AllWork U jobs first others
        → AllAct node jobs (time_in levels) first others
    all-act jobs i [] has work = record {
      responds = responds i (and_parts _ _ has).0;
      works = work.works;
    }
    all-act jobs i (c ∷ others) has work = (
      record {
        responds = responds i (and_parts _ _ has).0;
        works = work.0.works;
      },
      work.1,
      all-act jobs c others (and_parts _ _ has).1 work.2,
    )

    pub in_runs : (writes : Writes) (offsets : List ℕ) (first : ℕ) (others : List ℕ) (bound : ℕ)
        → bound_in writes offsets U levels (first ∷ others) ≡ Some bound
        → HoldsInRuns writes offsets node first others bound
    in_runs writes offsets first others bound is jobs until shift legal work steady all_steady clock =
        let has = has-bound writes offsets first others bound is in
        let act = all-act jobs first others has.all work in (
          ages_law writes node jobs are.order legal until shift (time_in levels) offsets first others bound
              act steady all_steady clock has.number,
          reactions_law writes node jobs are.order legal until shift (time_in levels) offsets first others
              bound act steady all_steady clock has.number,
        )

    pub simulated : (writes : Writes) (offsets : List ℕ) (first : ℕ) (others : List ℕ) (bound : ℕ)
        → bound_in writes offsets U levels (first ∷ others) ≡ Some bound
        → HoldsWhereSimulated writes offsets node first others bound
    simulated writes offsets first others bound is rs until shift trace ran work steady all_steady clock =
        let has = has-bound writes offsets first others bound is in
        within_law writes offsets node rs until shift trace (time_in levels) first others bound are.order
        ran (all-act (jobs_of U rs) first others has.all work) steady all_steady clock has.number
