-- Where the spans of a chain begin: no delay moves that.
use Rattle.std.proofs.Common.{◌≡◌, ◌<◌, ◌≤◌, ℕ, ◌+◌, ◌-◌, ◌*◌, ◌%◌, ◌==◌, ◌&&◌, zero, suc, max, true, false, refl, sym, ap}
use Rattle.std.proofs.Common.{◌∙◌, arith, inl, inr, List, [], ◌∷◌, Some, None, drop}
use Rattle.std.specs.Prelude.{Bool, length, map, nat_le, option_map}
use Rattle.std.proofs.lemmas.Bool.{cases_Bool, leb-false, leb-true, le-leb, lt-leb}
use Rattle.task_sheet.specs.Demand.{greatest_of}
use Rattle.task_sheet.proofs.Common.{LevelData, Task, task_at}
use Rattle.chains.specs.Gaps.{gap_of}
use Rattle.chains.specs.Walks.{are_below, are_whole, arrivals, first_whole}
use Rattle.chains.specs.Walks.{span_from, starts_of, steps_with}
use Rattle.chains.specs.Parts.{afters_of}
use Rattle.chains.specs.declared.bounds.BoundPart.{BoundPart}
use Rattle.chains.proofs.LongestLaws.{delays_keep_starts}
use Rattle.chain_tables.specs.Chains.{ChainData}
use Rattle.cert_checker.specs.Ages.{covers_chain, is_enough, node_of, response_in, steps_in}

module _ (U : List Task) where
  pub same-whole : (offsets delays knowns others tasks : List ℕ) (time : ℕ)
      → are_whole (steps_with U offsets delays tasks) time ≡ are_whole (steps_with U knowns others tasks) time
  same-whole offsets delays knowns others [] time = refl
  same-whole offsets delays knowns others (i ∷ tasks) time =
      ap (λ b. (time % gap_of (task_at U i) == 0) && b)
      (same-whole (drop 1 offsets) (drop 1 delays) (drop 1 knowns) (drop 1 others) tasks time)

  pub same-first : (offsets delays knowns others tasks : List ℕ) (period many n : ℕ)
      → first_whole (steps_with U offsets delays tasks) period many n
      ≡ first_whole (steps_with U knowns others tasks) period many n
  unfolding first_whole
  same-first offsets delays knowns others tasks period zero n = refl
  same-first offsets delays knowns others tasks period (suc many) n =
      rw (
        same-whole offsets delays knowns others tasks (n * period),
        same-first offsets delays knowns others tasks period many (n + 1),
      ) refl

  -- offsets that aren't known are not above any period
  pub none_below : (delays tasks : List ℕ) → are_below (steps_with U [] delays tasks) ≡ true
  none_below delays [] = refl
  none_below delays (i ∷ tasks) = none_below (drop 1 delays) tasks

  pub none_known : (known tasks : List ℕ) → length known ≡ 0
      → true ≡ are_below (steps_with U known [] tasks)
  none_known [] tasks none = sym (none_below [] tasks)
  none_known (offset ∷ known) tasks none = absurd (omega (arith, none))

-- ---- a chain's bound
module _ (U : List Task) (levels : List LevelData) (c : ChainData) where
  steps-start : starts_of (steps_in U levels c) ≡ starts_of (steps_with U c.offsets [] c.tasks)
  steps-start = delays_keep_starts U c.offsets
      (map (λ (p : BoundPart). p.time) (afters_of c.writes (node_of U levels) (response_in levels) c.tasks))
      [] c.tasks

  pub covers_some : (ts : List ℕ) (number : ℕ) → Some ts ≡ starts_of (steps_with U c.offsets [] c.tasks)
      → nat_le (greatest_of (λ t. span_from (steps_in U levels c) t) ts) number
      ≡ covers_chain U levels c number
  covers_some ts number is =
      ap (λ o. is_enough (option_map (λ starts. greatest_of (λ t. span_from (steps_in U levels c) t) starts) o) number)
      (is ∙ sym steps-start)

  pub covers_none : (number : ℕ) → None ≡ starts_of (steps_with U c.offsets [] c.tasks)
      → false ≡ covers_chain U levels c number
  covers_none number is =
      ap (λ o. is_enough (option_map (λ starts. greatest_of (λ t. span_from (steps_in U levels c) t) starts) o) number)
      (is ∙ sym steps-start)

-- ---- none of those left is longer
within_max : (a b number : ℕ) → a ≤ number → nat_le (max a b) number ≡ nat_le b number
within_max a b number less = elim (cases_Bool (nat_le b number)) [
  | inl is ↦ le-leb (max a b) number (omega (arith, leb-true b number is)) ∙ sym is
  | inr is ↦ lt-leb (max a b) number (omega (arith, leb-false b number is)) ∙ sym is
]

pub within_past : (f : ℕ → ℕ) (start period count n number : ℕ) (within : Bool) → n < count
    → f start ≤ number → nat_le (greatest_of f (arrivals start period (count - n))) number ≡ within
    → nat_le (greatest_of f (arrivals (start + period) period (count - (n + 1)))) number ≡ within
within_past f start period count n number within less fits is =
    let left : count - n ≡ suc (count - (n + 1)) = omega arith in
    let rest = greatest_of f (arrivals (start + period) period (count - (n + 1))) in
    sym (within_max (f start) rest number fits) ∙ (rw left at is)

pub within_not : (f : ℕ → ℕ) (start period count n number : ℕ) (within : Bool) → n < count
    → number < f start → nat_le (greatest_of f (arrivals start period (count - n))) number ≡ within
    → false ≡ within
within_not f start period count n number within less past is =
    let left : count - n ≡ suc (count - (n + 1)) = omega arith in
    let rest = greatest_of f (arrivals (start + period) period (count - (n + 1))) in
    sym (lt-leb (max (f start) rest) number (omega (arith, past))) ∙ (rw left at is)

pub within_end : (f : ℕ → ℕ) (start period count n number : ℕ) (within : Bool) → count ≤ n
    → nat_le (greatest_of f (arrivals start period (count - n))) number ≡ within → true ≡ within
within_end f start period count n number within past is =
    let none : count - n ≡ 0 = omega arith in
    let is' = rw none at is in
    sym (le-leb 0 number (omega arith)) ∙ is'
