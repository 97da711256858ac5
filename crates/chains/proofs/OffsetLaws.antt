-- Offsets take nothing away: without them the bound is all gaps, handovers and the last response, and with them it is no longer.
use Rattle.std.proofs.Common.{ℕ, ◌+◌, ◌≤◌, ◌≡◌, sym, ap, ◌∙◌, arith}
use Rattle.std.proofs.Common.{List, [], ◌∷◌, Some, true}
use Rattle.std.specs.Prelude.{drop}
use Rattle.std.proofs.Math.Nat.{max-zero}
use Rattle.std.proofs.lemmas.Bool.{and_parts}
use Rattle.std.proofs.lemmas.Option.{same_Some}
use Rattle.task_sheet.proofs.Common.{greatest_of, task_at}
use Rattle.ceiling_kernel.proofs.Common.{Node}
use Rattle.chains.specs.Gaps.{gap_of}
use Rattle.chains.specs.Bounds.{bound_of, delay_of, handed_within, PartsAddUp}
use Rattle.chains.specs.Walks.{are_below, arrivals, first_known, first_whole, is_below, next_by, span_from}
use Rattle.chains.specs.Parts.{OffsetsHelp, SteadyBound, steps_of}
use Rattle.chains.specs.declared.bounds.Writes.{Writes}
use Rattle.chains.specs.declared.walks.TheConstants.{ARRIVAL_LIMIT}
use Rattle.chains.proofs.RoundLaws.{longest_is, next_soon}
use Rattle.chains.proofs.LongestLaws.{greatest_within}
use Rattle.chains.proofs.ClockLaws.{ends_from, span_ends, steady_end}
use Rattle.chains.proofs.AgeLaws.{parts_law}

module _ (writes : Writes) (node : Node) (response : ℕ → ℕ) where
  -- without offsets each span takes as long
  steady_span : (i : ℕ) (others : List ℕ) (t : ℕ)
      → span_from (steps_of writes [] node response (i ∷ others)) t
      ≡ bound_of writes node response i others
  steady_span i others t =
      let parts : PartsAddUp writes node response i others = parts_law writes node response i others in
      omega (
        arith,
        parts.delay,
        span_ends writes node response [] i others t,
        steady_end writes node response i others (t + gap_of (task_at node.tasks i)),
      )

  -- with offsets below the periods what a job hands on is written no later
  soon_end : (offsets : List ℕ) (i : ℕ) (others : List ℕ) (a : ℕ)
      → are_below (steps_of writes offsets node response others) ≡ true
      → ends_from writes offsets node response i others a ≤ a + delay_of writes node response i others
  soon_end offsets i [] a below = omega arith
  soon_end offsets i (c ∷ others) a below =
      let gap : ℕ = gap_of (task_at node.tasks c) in
      let x : ℕ = a + handed_within writes node i c (response i) in
      let b = and_parts (is_below (first_known offsets) gap)
      (are_below (steps_of writes (drop 1 offsets) node response others)) below in
      omega (
        arith,
        next_soon (first_known offsets) gap x b.0,
        soon_end (drop 1 offsets) c others (next_by (first_known offsets) gap x) b.1,
      )

pub steady_bound_law : (writes : Writes) (node : Node) (response : ℕ → ℕ) (i : ℕ) (others : List ℕ)
    → SteadyBound writes node response i others
steady_bound_law writes node response i others =
    ap Some (max-zero (span_from (steps_of writes [] node response (i ∷ others)) 0)
    ∙ steady_span writes node response i others 0)

pub offsets_law : (writes : Writes) (offsets : List ℕ) (node : Node) (response : ℕ → ℕ) (i : ℕ)
    (others : List ℕ) → OffsetsHelp writes offsets node response i others
offsets_law writes [] node response i others bound is =
    let same = same_Some bound (bound_of writes node response i others)
    (sym is ∙ steady_bound_law writes node response i others) in
    omega arith
offsets_law writes (offset ∷ offsets) node response i others bound is =
    let gap : ℕ = gap_of (task_at node.tasks i) in
    let steps = steps_of writes (offset ∷ offsets) node response (i ∷ others) in
    let l = longest_is (λ t. span_from steps t) offset gap bound (are_below steps)
    (first_whole steps gap ARRIVAL_LIMIT 1) is in
    let b = and_parts (is_below (Some offset) gap)
    (are_below (steps_of writes offsets node response others)) l.0 in
    let parts : PartsAddUp writes node response i others = parts_law writes node response i others in
    let within : greatest_of (λ t. span_from steps t) (arrivals offset gap l.1.0)
    ≤ bound_of writes node response i others =
    greatest_within (λ t. span_from steps t) (bound_of writes node response i others)
    (λ t. omega (
      arith,
      parts.delay,
      span_ends writes node response (offset ∷ offsets) i others t,
      soon_end writes node response offsets i others (t + gap) b.1,
    ))
    (arrivals offset gap l.1.0) in
    omega (arith, l.1.2, within)
