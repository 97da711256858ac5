-- What another value of a number does to a set.
use Rattle.std.proofs.Common.{◌≡◌, ◌↔◌, ℕ, zero, suc, ◌+◌, ◌-◌, ◌<◌, ◌≤◌, inl, inr, min, max, List, [], ◌∷◌}
use Rattle.std.proofs.Common.{length, slice_set, refl, ◌∙◌, ap, arith}
use Rattle.std.specs.List.{AllZip}
use Rattle.std.proofs.lemmas.Bool.{cases_lt}
use Rattle.std.proofs.lemmas.List.{set-get_or}
use Rattle.task_sheet.specs.Sheet.{CriticalSection, Task, IsValidSheet, no_task, task_at}
use Rattle.task_sheet.specs.TaskSet.{IsTaskSet}
use Rattle.task_sheet.proofs.TaskLaws.{valid_at}
use Rattle.other_numbers.specs.Easier.{IsShorter, IsEasier, AreEasier}
use Rattle.other_numbers.proofs.CostLaws.{AreEasier-placed}
use Rattle.other_numbers.proofs.EasierLaws.{easier-by, jobs-rarer, shorter-refl, cheaper-refl}
pub use Rattle.other_numbers.proofs.EasierLaws.{PassesIn-easier}
use Rattle.limits.specs.declared.number.Number.{Number}
use Rattle.limits.specs.declared.number.Number.TheVariants.{Cost, Period, Deadline, Jitter, Len}
use Rattle.limits.specs.declared.number.Number.TheVariants.{InterruptCost, InterruptPeriod}
use Rattle.task_sheet.specs.declared.node.Interrupt.{Interrupt}
use Rattle.limits.specs.Numbers.{no_interrupt}
use Rattle.limits.specs.Numbers.{section_at, moved, with_len, value_of, with_number, IsNoFurther}
use Rattle.limits.specs.Numbers.{numbered}
use Rattle.limits.specs.Numbers.{MayHave, IsFurthestFor, IsFurthest, IsSpan, at_distance, distance}
use Rattle.limits.specs.InOrder.{IsFurthestIn}
use Rattle.limits.proofs.InterruptLaws.{cheaper-cost, cheaper-period, placed-read}
use Rattle.limits.proofs.SpanLaws.{far-known}
use Rattle.other_numbers.proofs.PlacedLaws.{IsNamesake}

pub namesake : (number : Number) (t : Task) (value : ℕ) → IsNamesake (with_number number t value) t
namesake Cost t value = record { name = refl; weight = refl }
namesake Period t value = record { name = refl; weight = refl }
namesake Deadline t value = record { name = refl; weight = refl }
namesake Jitter t value = record { name = refl; weight = refl }
namesake (Len k along) t value = record { name = refl; weight = refl }
namesake (InterruptCost k) t value = record { name = refl; weight = refl }
namesake (InterruptPeriod k) t value = record { name = refl; weight = refl }

-- ---- a value that is no further asks no more
shorter-moved : (xs : List CriticalSection) (along low high less : ℕ)
    → AllZip (IsShorter ◌≤◌) (moved along low less xs) (moved along high less xs)
shorter-moved xs zero low high less = shorter-refl xs
shorter-moved [] (suc along) low high less = tt
shorter-moved (x ∷ xs) (suc along) low high less =
    (record { locks = refl; len = omega arith }, shorter-moved xs along low high less)

shorter-len : (xs : List CriticalSection) (k along low high : ℕ) → low ≤ high
    → AllZip (IsShorter ◌≤◌) (with_len xs k along low) (with_len xs k along high)
shorter-len [] k along low high le = tt
shorter-len (x ∷ xs) zero along low high le =
    (record { locks = refl; len = le }, shorter-moved xs along low high x.len)
shorter-len (x ∷ xs) (suc k) along low high le =
    (record { locks = refl; len = omega arith }, shorter-len xs k along low high le)

easier-number : (number : Number) (t : Task) (low high : ℕ)
    → IsValidSheet (with_number number t high) → IsNoFurther number low high → IsEasier (with_number number t low) (with_number number t high)
easier-number Cost t low high may le = easier-by _ _ refl refl refl le (omega arith) (λ time. omega arith)
    (omega arith) (shorter-refl t.sections) (cheaper-refl t.interrupts)
easier-number Period t low high may le = easier-by _ _ refl refl refl (omega arith) (omega arith)
    (λ time. jobs-rarer low high t.jitter t.jitter time (omega (arith, may.period_from)) le (omega arith))
    (omega (arith, le)) (shorter-refl t.sections) (cheaper-refl t.interrupts)
easier-number Deadline t low high may le = easier-by _ _ refl refl refl (omega arith) (omega arith)
    (λ time. jobs-rarer (max t.period low) (max t.period high) t.jitter t.jitter time
    (omega (arith, may.period_from)) (omega (arith, le)) (omega arith))
    le (shorter-refl t.sections) (cheaper-refl t.interrupts)
easier-number Jitter t low high may le = easier-by _ _ refl refl refl (omega arith) le
    (λ time. jobs-rarer t.period t.period low high time (omega (arith, may.period_from)) (omega arith) le)
    (omega arith) (shorter-refl t.sections) (cheaper-refl t.interrupts)
easier-number (Len k along) t low high may le = easier-by _ _ refl refl refl (omega arith) (omega arith)
    (λ time. omega arith) (omega arith) (shorter-len t.sections k along low high le) (cheaper-refl t.interrupts)
easier-number (InterruptCost k) t low high may le = easier-by _ _ refl refl refl (omega arith) (omega arith)
    (λ time. omega arith) (omega arith) (shorter-refl t.sections) (cheaper-cost t.interrupts k low high le)
easier-number (InterruptPeriod k) t low high may le = easier-by _ _ refl refl refl (omega arith) (omega arith)
    (λ time. omega arith) (omega arith) (shorter-refl t.sections) (cheaper-period t.interrupts k low high
    (λ lt. let is = placed-read t.interrupts k _ lt may.interrupts in
    omega (arith, is.period_from)) le)

pub AreEasier-numbered : (U : List Task) (i : ℕ) (number : Number) (low high : ℕ)
    → MayHave U i number high → IsNoFurther number low high
    → AreEasier (numbered U i number low) (numbered U i number high)
AreEasier-numbered U i number low high may le =
    AreEasier-placed U i _ _ (easier-number number (task_at U i) low high may le)

-- ---- with its own value a task is as it was
moved-own : (xs : List CriticalSection) (along len : ℕ) → moved along len len xs ≡ xs
moved-own xs zero len = refl
moved-own [] (suc along) len = refl
moved-own (x ∷ xs) (suc along) len =
    let here : x.at + len - len ≡ x.at = omega arith in
    λ i. record x { at = here i } ∷ moved-own xs along len i

len-own : (xs : List CriticalSection) (k along : ℕ)
    → with_len xs k along (section_at xs k).len ≡ xs
len-own [] k along = refl
len-own (x ∷ xs) zero along =
    ap (λ (ys : List CriticalSection). x ∷ ys) (moved-own xs along x.len)
len-own (x ∷ xs) (suc k) along =
    ap (λ (ys : List CriticalSection). x ∷ ys) (len-own xs k along)

number-own : (number : Number) (t : Task) → IsValidSheet t
    → with_number number t (value_of number t) ≡ t
number-own Cost t valid = refl
number-own Period t valid = let e : min t.deadline t.period ≡ t.deadline =
    omega (arith, valid.deadline_to) in ap (λ d. record t { deadline = d }) e
number-own Deadline t valid = let e : max t.period t.deadline ≡ t.period =
    omega (arith, valid.deadline_to) in ap (λ p. record t { period = p }) e
number-own Jitter t valid = refl
number-own (Len k along) t valid = ap (λ (xs : List CriticalSection). record t { sections = xs })
    (len-own t.sections k along)
number-own (InterruptCost k) t valid = ap (λ (xs : List Interrupt). record t { interrupts = xs })
    (set-get_or t.interrupts k no_interrupt)
number-own (InterruptPeriod k) t valid = ap (λ (xs : List Interrupt). record t { interrupts = xs })
    (set-get_or t.interrupts k no_interrupt)

pub numbered-own : (U : List Task) (i : ℕ) (number : Number) → IsTaskSet U → i < length U
    → numbered U i number (value_of number (task_at U i)) ≡ U
numbered-own U i number set inside =
    ap (λ (x : Task). slice_set U i x) (number-own number (task_at U i) (valid_at U i set inside))
    ∙ set-get_or U i no_task

pub may-own : (U : List Task) (i : ℕ) (number : Number) → IsTaskSet U → i < length U
    → MayHave U i number (value_of number (task_at U i))
may-own U i number set inside =
    let valid = valid_at U i set inside in
    rw (number-own number (task_at U i) valid) valid

-- ---- what the furthest says, in a sense in which a set that asks less is feasible too
same-far : (number : Number) (first second : ℕ) → IsNoFurther number first second
    → IsNoFurther number second first → first ≡ second
same-far Cost first second le ge = omega (arith, le, ge)
same-far Period first second le ge = omega (arith, le, ge)
same-far Deadline first second le ge = omega (arith, le, ge)
same-far Jitter first second le ge = omega (arith, le, ge)
same-far (Len k along) first second le ge = omega (arith, le, ge)
same-far (InterruptCost k) first second le ge = omega (arith, le, ge)
same-far (InterruptPeriod k) first second le ge = omega (arith, le, ge)

pub furthest-one : (P : List Task → Type 0) (U : List Task) (i : ℕ) (number : Number)
    (first second : ℕ) → IsFurthestFor P U i number first → IsFurthestFor P U i number second
    → first ≡ second
furthest-one P U i number first second f s = same-far number first second
    (s.furthest first f.may f.feasible) (f.furthest second s.may s.feasible)

-- the last distance from the easiest value with which it is feasible is that of the furthest
pub last-of : (P : List Task → Type 0) (U : List Task) (i : ℕ) (number : Number) (easiest long : ℕ)
    → IsSpan (task_at U i) number easiest long → (far : ℕ) → far ≤ long
    → P (numbered U i number (at_distance number easiest far))
    → ((more : ℕ) → far < more → more ≤ long
    → ¬ P (numbered U i number (at_distance number easiest more)))
    → IsFurthestFor P U i number (at_distance number easiest far)
last-of P U i number easiest long span far within here fails = record {
  may = span.may far within;
  feasible = here;
  furthest = λ other may feasible.
      let there = span.all other may in
      elim (cases_lt far there.0) [
        | inl lt ↦ absurd (fails there.0 lt there.1 (rw there.2 at feasible))
        | inr le ↦ rw there.2 (span.rises there.0 far le)
      ];
}

module _ (P : List Task → Type 0) (eased : (V U : List Task) → AreEasier V U → P U → P V)
    (U : List Task) (i : ℕ) (number : Number) where
  -- feasible with a value it is so with each that is no further
  pub nearer : (low high : ℕ) → MayHave U i number high → IsNoFurther number low high
      → P (numbered U i number high) → P (numbered U i number low)
  nearer low high may le =
      eased (numbered U i number low) (numbered U i number high)
      (AreEasier-numbered U i number low high may le)

  pub furthest-each : (most value : ℕ) → IsFurthestFor P U i number most → MayHave U i number value
      → P (numbered U i number value) ↔ IsNoFurther number value most
  furthest-each most value is may =
      (is.furthest value may, λ le. nearer value most is.may le is.feasible)

  module _ (set : IsTaskSet U) (inside : i < length U) where
    pub furthest-own : (most : ℕ) → IsFurthestFor P U i number most
        → P U ↔ IsNoFurther number (value_of number (task_at U i)) most
    furthest-own most is = rw (numbered-own U i number set inside)
        at (furthest-each most (value_of number (task_at U i)) is (may-own U i number set inside))

    pub furthest-none : ((value : ℕ) → MayHave U i number value → ¬ P (numbered U i number value))
        → ¬ P U
    furthest-none none = rw (numbered-own U i number set inside)
        at (none (value_of number (task_at U i)) (may-own U i number set inside))

  -- ---- a search over the values of a sheet
  module _ (easiest long : ℕ) (span : IsSpan (task_at U i) number easiest long) where
    abbrev passes : ℕ → Type 0
    passes far = P (numbered U i number (at_distance number easiest far))

    -- not feasible so far from the easiest it isn't so further on
    pub further : (near far : ℕ) → near ≤ far → far ≤ long → passes far → passes near
    further near far le within = nearer (at_distance number easiest near)
        (at_distance number easiest far) (span.may far within) (span.rises near far le)

    -- a value that it may have passes at its distance
    pub known-far : (value far : ℕ) → MayHave U i number value → far ≡ distance number easiest value
        → P (numbered U i number value) → (far ≤ long) × passes far
    known-far value far may is here =
        let known = far-known (task_at U i) number easiest long value span may in (
          omega (arith, is, known.0),
          rw (is, known.1) here,
        )

    -- the last that passes is the furthest
    pub last-passing : (far : ℕ) → far ≤ long → passes far
        → ((more : ℕ) → far < more → more ≤ long → ¬ passes more)
        → IsFurthestFor P U i number (at_distance number easiest far)
    last-passing = last-of P U i number easiest long span

pub in_order-within : (U : List Task) (order : List ℕ) (i : ℕ) (number : Number) (most any : ℕ)
    → IsFurthestIn U order i number most → IsFurthest U i number any
    → IsNoFurther number most any
in_order-within U order i number most any is other =
    other.furthest most is.may (order, is.feasible)
