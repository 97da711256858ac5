-- To keep to a budget is to have no fault, and what a team takes is little enough to be added.
use Rattle.std.proofs.Common.{◌≡◌, ◌∙◌, ◌↔◌, ◌+◌, ◌*◌, ◌<◌, ◌≤◌, ℕ, suc, inl, inr, List, [], ◌∷◌}
use Rattle.std.proofs.Common.{length, map, All, Option, Some, None, refl, ap, subst, arith, nat_lt}
use Rattle.std.proofs.Math.Nat.{mul-le-mul_right}
use Rattle.std.proofs.lemmas.Bool.{cases_Bool, le-ltb, lt-ltb, ltb-false}
use Rattle.std.proofs.lemmas.Grind.{div_ceil_times}
use Rattle.std.proofs.lemmas.List.{length-append, length-map}
use Rattle.std.proofs.lemmas.List.Elements.{All-head, All-tail}
use Rattle.std.specs.Int.{div_ceil}
use Rattle.std.specs.Option.{option_or}
use Rattle.task_sheet.specs.Sheet.{Task, same_bytes}
use Rattle.teams.specs.Agreeing.{interrupts_by}
use Rattle.teams.specs.Owned.{TeamSetData, owned_all, owned_by}
use Rattle.loads.specs.Shares.{costs_of, periods_of, IsShare}
use Rattle.teams.specs.Budgets.{budget_fault, has_team, interrupt_share, is_load_past, limits_fault}
use Rattle.teams.specs.Budgets.{load_fault, longest_shared, section_fault, shares_by, shares_in}
use Rattle.teams.specs.Budgets.{task_share, thousandths_of, IsAtMost, IsLoadAtMost, IsWithin}
use Rattle.loads.proofs.ShareLaws.{share_some}
use Rattle.teams.specs.declared.fault.TeamsFault.{TeamsFault}
use Rattle.teams.specs.declared.fault.TeamsFault.TheVariants.{NoSuchTeam, PastBudget}
use Rattle.teams.specs.declared.node.Budget.{Budget}
use Rattle.teams.specs.declared.node.Quantity.TheVariants.{Load, Section}
use Rattle.loads.specs.declared.shares.Share.{Share}

-- ---- one limit
section_none : (team : List ℕ) (len : ℕ) (limit : Option ℕ)
    → section_fault team len limit ≡ None ↔ IsAtMost len limit
section_none team len None = (λ _. tt, λ _. refl)
section_none team len (Some limit) = (
  λ e. elim (cases_Bool (nat_lt limit len)) [
    | inl over ↦
        let never : Some (PastBudget team Section len limit) ≡ None = (rw over at e) in
        absurd (cc)
    | inr not ↦ ltb-false limit len not
  ],
  λ h. rw (le-ltb limit len h) refl,
)

load_none : (team : List ℕ) (shares : List Share) (limit : Option ℕ)
    → load_fault team shares limit ≡ None ↔ IsLoadAtMost shares limit
load_none team shares None = (λ _. tt, λ _. refl)
load_none team shares (Some limit) = (
  λ e. elim (cases_Bool (is_load_past shares limit)) [
    | inl over ↦
        let never : Some (PastBudget team Load (thousandths_of shares) limit) ≡ None =
        (rw over at e) in
        absurd (cc)
    | inr not ↦ ltb-false (limit * periods_of shares) (costs_of shares * 1000) not
  ],
  λ h. rw (le-ltb (limit * periods_of shares) (costs_of shares * 1000) h) refl,
)

-- ---- both
first_none : (o p : Option TeamsFault) → option_or o p ≡ None → (o ≡ None) × (p ≡ None)
first_none None p e = (refl, e)
first_none (Some f) p e = absurd (cc)

limits_none : (sets : List TeamSetData) (b : Budget) → limits_fault sets b ≡ None
    ↔ (IsLoadAtMost (shares_by sets b.team) b.load
    × IsAtMost (longest_shared (owned_all sets) b.team) b.section)
unfolding limits_fault
limits_none sets b =
    let load = load_none b.team (shares_by sets b.team) b.load in
    let section = section_none b.team (longest_shared (owned_all sets) b.team) b.section in (
      λ e. let both = first_none _ _ e in (load.0 both.0, section.0 both.1),
      λ within. rw (load.1 within.0) (section.1 within.1),
    )

-- ---- the whole
pub no_fault : (sets : List TeamSetData) (b : Budget) → budget_fault sets b ≡ None
    ↔ IsWithin sets b
unfolding budget_fault
no_fault sets b =
    let limits = limits_none sets b in (
      λ e. elim (cases_Bool (has_team sets b.team)) [
        | inl has ↦
            let both = limits.0 (rw has at e) in
            record { known = has; load = both.0; section = both.1 }
        | inr none ↦ let never : Some (NoSuchTeam b.team) ≡ None = (rw none at e) in absurd (cc)
      ],
      λ kept. rw (kept.known) (limits.1 (kept.load, kept.section)),
    )

-- ---- shares
owned_length : (team : List ℕ) (U : List Task) → length (owned_by team U) ≡ length U
owned_length team [] = refl
owned_length team (t ∷ U) = ap suc (owned_length team U)

-- those of a team are no more than the tasks and interrupts of all
pub few_shares : (sets : List TeamSetData) (team : List ℕ)
    → length (shares_by sets team) ≤ length (owned_all sets) + length (interrupts_by sets)
few_shares [] team = omega arith
few_shares (s ∷ sets) team =
    let rest = few_shares sets team in
    let own : length (shares_in s) ≡ length s.set + length s.interrupts =
    length-append (map task_share s.set) (map interrupt_share s.interrupts) ∙ (omega (
      arith,
      length-map s.set task_share,
      length-map s.interrupts interrupt_share,
    )) in
    let tasks : length (owned_all (s ∷ sets)) ≡ length s.set + length (owned_all sets) =
    length-append (owned_by s.team s.set) (owned_all sets)
    ∙ ap (λ n. n + length (owned_all sets)) (owned_length s.team s.set) in
    let all : length (interrupts_by (s ∷ sets)) ≡ length s.interrupts + length (interrupts_by sets) =
    length-append s.interrupts (interrupts_by sets) in
    elim (cases_Bool (same_bytes s.team team)) [
      | inl is ↦ rw is (omega (arith, length-append (shares_in s) (shares_by sets team), own, tasks, all, rest))
      | inr other ↦ rw other (omega (arith, tasks, all, rest))
    ]

-- the number in thousandths is past a limit exactly where the fraction is
pub past_rounded : (a b limit : ℕ) → 0 < b → limit < div_ceil a b → limit * b < a
past_rounded a b limit some over =
    let bounds = div_ceil_times a b some in
    let more : suc limit * b ≤ div_ceil a b * b = mul-le-mul_right b over in
    omega (arith, bounds.1, more)

pub within_rounded : (a b limit : ℕ) → 0 < b → div_ceil a b ≤ limit → a ≤ limit * b
within_rounded a b limit some under =
    let bounds = div_ceil_times a b some in
    let more : div_ceil a b * b ≤ limit * b = mul-le-mul_right b under in
    omega (arith, bounds.0, more)

-- ---- the number that is printed
periods_some : (shares : List Share) → All IsShare shares → 0 < periods_of shares
periods_some [] all = omega arith
periods_some (s ∷ shares) all =
    share_some s.period (periods_of shares) (omega (arith, (All-head IsShare s shares all).some))
    (omega (arith, periods_some shares (All-tail IsShare s shares all)))

pub load_within : (team : List ℕ) (shares : List Share) (limit number : ℕ) → All IsShare shares
    → number ≡ thousandths_of shares → number ≤ limit → None ≡ load_fault team shares (Some limit)
load_within team shares limit number valid is under =
    let within : costs_of shares * 1000 ≤ limit * periods_of shares =
    within_rounded (costs_of shares * 1000) (periods_of shares) limit (periods_some shares valid)
    (subst (λ (n : ℕ). n ≤ limit) is under) in
    rw (le-ltb (limit * periods_of shares) (costs_of shares * 1000) within) refl

pub load_past : (team : List ℕ) (shares : List Share) (limit number : ℕ) → All IsShare shares
    → number ≡ thousandths_of shares → limit < number
    → Some (PastBudget team Load number limit) ≡ load_fault team shares (Some limit)
load_past team shares limit number valid is over =
    let past : limit * periods_of shares < costs_of shares * 1000 =
    past_rounded (costs_of shares * 1000) (periods_of shares) limit (periods_some shares valid)
    (subst (λ (n : ℕ). limit < n) is over) in
    rw (is, lt-ltb (limit * periods_of shares) (costs_of shares * 1000) past) refl
