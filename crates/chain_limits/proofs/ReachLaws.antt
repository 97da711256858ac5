-- How far a number goes with a chain met in an order.
use Rattle.std.proofs.Common.{◌≡◌, ◌↔◌, ℕ, ◌+◌, ◌<◌, ◌≤◌, inl, inr, Bool, true, false, List, length}
use Rattle.std.proofs.Common.{Some, refl, sym, ◌∙◌, subst, arith}
use Rattle.std.proofs.lemmas.Bool.{cases_Bool, cases_lt, true≢false}
use Rattle.std.proofs.lemmas.List.{length-set}
use Rattle.task_sheet.proofs.Common.{Task, task_at, IsTaskSet, IsPassingOrder}
use Rattle.chains.specs.Gaps.{gap_of}
use Rattle.chains.specs.declared.bounds.Writes.{Writes}
use Rattle.chains.specs.declared.bounds.Writes.TheVariants.{AtFinish, AtDeadline}
use Rattle.other_numbers.proofs.PlacedLaws.{IsTaskSet-placed}
use Rattle.limits.specs.declared.number.Number.{Number}
use Rattle.limits.specs.declared.number.Number.TheVariants.{Cost, Period, Deadline, Jitter, Len}
use Rattle.limits.specs.declared.number.Number.TheVariants.{InterruptCost, InterruptPeriod}
use Rattle.limits.specs.Numbers.{IsNoFurther, IsSpan, MayHave, at_distance, numbered, value_of, with_number}
use Rattle.other_numbers.proofs.EasierLaws.{IsPassingOrder-easier}
use Rattle.limits.proofs.NumberLaws.{AreEasier-numbered, further, last-of, may-own, namesake, numbered-own}
use Rattle.limits.proofs.SpanLaws.{at-start}
use Rattle.limits.proofs.TableLaws.{same-placed}
use Rattle.chain_limits.specs.Reaches.{AnswersReach, Grows, HasSameTimes, IsFurthestMet, IsMetIn, NoneMeets}
use Rattle.chain_limits.specs.Reaches.{PassesFurther}
use Rattle.chain_limits.specs.declared.reaches.Reach.{Reach}
use Rattle.chain_limits.proofs.MetLaws.{met-easier, met-kept}

-- ---- a number that grows
gap-kept : (number : Number) → Grows number → (t : Task) (value : ℕ)
    → gap_of (with_number number t value) ≡ gap_of t
gap-kept Cost grows t value = refl
gap-kept Period grows t value = absurd grows
gap-kept Deadline grows t value = absurd grows
gap-kept Jitter grows t value = refl
gap-kept (Len k along) grows t value = refl
gap-kept (InterruptCost k) grows t value = absurd grows
gap-kept (InterruptPeriod k) grows t value = absurd grows

deadline-kept : (number : Number) → Grows number → (t : Task) (value : ℕ)
    → (with_number number t value).deadline ≡ t.deadline
deadline-kept Cost grows t value = refl
deadline-kept Period grows t value = absurd grows
deadline-kept Deadline grows t value = absurd grows
deadline-kept Jitter grows t value = refl
deadline-kept (Len k along) grows t value = refl
deadline-kept (InterruptCost k) grows t value = absurd grows
deadline-kept (InterruptPeriod k) grows t value = absurd grows

-- so its values leave the times of a set's tasks as they are
gaps-kept : (U : List Task) (i : ℕ) (number : Number) → Grows number → (value k : ℕ)
    → gap_of (task_at (numbered U i number value) k) ≡ gap_of (task_at U k)
gaps-kept U i number grows value k = same-placed gap_of (with_number number (task_at U i) value) U i
    (gap-kept number grows (task_at U i) value) k

deadlines-kept : (U : List Task) (i : ℕ) (number : Number) → Grows number → (value k : ℕ)
    → (task_at (numbered U i number value) k).deadline ≡ (task_at U k).deadline
deadlines-kept U i number grows value k =
    same-placed (λ (t : Task). t.deadline) (with_number number (task_at U i) value) U i
    (deadline-kept number grows (task_at U i) value) k

times-kept : (writes : Writes) (U : List Task) (i : ℕ) (number : Number) → Grows number
    → (low high k : ℕ)
    → HasSameTimes writes (task_at (numbered U i number low) k) (task_at (numbered U i number high) k)
times-kept AtFinish U i number grows low high k =
    gaps-kept U i number grows low k ∙ sym (gaps-kept U i number grows high k)
times-kept AtDeadline U i number grows low high k = (
  gaps-kept U i number grows low k ∙ sym (gaps-kept U i number grows high k),
  deadlines-kept U i number grows low k ∙ sym (deadlines-kept U i number grows high k),
)

pub no_further : (number : Number) → Grows number → (value other : ℕ)
    → IsNoFurther number value other ↔ (value ≤ other)
no_further Cost grows value other = (λ le. le, λ le. le)
no_further Period grows value other = absurd grows
no_further Deadline grows value other = absurd grows
no_further Jitter grows value other = (λ le. le, λ le. le)
no_further (Len k along) grows value other = (λ le. le, λ le. le)
no_further (InterruptCost k) grows value other = absurd grows
no_further (InterruptPeriod k) grows value other = absurd grows

at_more : (number : Number) → Grows number → (easiest far : ℕ)
    → at_distance number easiest far ≡ easiest + far
at_more Cost grows easiest far = refl
at_more Period grows easiest far = absurd grows
at_more Deadline grows easiest far = absurd grows
at_more Jitter grows easiest far = refl
at_more (Len k along) grows easiest far = refl
at_more (InterruptCost k) grows easiest far = absurd grows
at_more (InterruptPeriod k) grows easiest far = absurd grows

-- more is further
pub past-further : (number : Number) → Grows number → (easiest near far : ℕ) → near < far
    → ¬ IsNoFurther number (at_distance number easiest far) (at_distance number easiest near)
past-further number grows easiest near far lt le = absurd (omega (
  arith,
  lt,
  (no_further number grows (at_distance number easiest far) (at_distance number easiest near)).0 le,
  at_more number grows easiest far,
  at_more number grows easiest near,
))

-- how far from the easiest value the chain is known to be met and to be missed, and whether the order passes further on
pub record IsSought (writes : Writes) (offsets order tasks : List ℕ) (limit : ℕ) (U : List Task) (i : ℕ)
    (number : Number) (easiest long : ℕ) (met missing : ℕ) (is_bound : Bool) : Type 0 where
  pub meets : IsMetIn writes offsets order tasks limit (numbered U i number (at_distance number easiest met))
  pub misses : (far : ℕ) → missing ≤ far → far ≤ long
      → ¬ IsMetIn writes offsets order tasks limit (numbered U i number (at_distance number easiest far))
  pub bound : is_bound ≡ true → (far : ℕ) × (missing ≤ far) × (far ≤ long)
      × IsPassingOrder (numbered U i number (at_distance number easiest far)) order
  pub free : is_bound ≡ false → (far : ℕ) → missing ≤ far → far ≤ long
      → ¬ IsPassingOrder (numbered U i number (at_distance number easiest far)) order
  pub apart : met < missing
  pub within : missing ≤ long + 1

-- with a value that a sheet may have the set is still one
set-numbered : (U : List Task) (i : ℕ) (number : Number) → IsTaskSet U → (value : ℕ)
    → MayHave U i number value → IsTaskSet (numbered U i number value)
set-numbered U i number set value may = IsTaskSet-placed U i (with_number number (task_at U i) value)
    (namesake number (task_at U i) value) set may

module _ (writes : Writes) (offsets order tasks : List ℕ) (limit : ℕ) (U : List Task) (i : ℕ) (number : Number)
    (set : IsTaskSet U) (inside : i < length U) where
  module _ (grows : Grows number) where
    -- met with a value the chain is met with each that is no further
    pub met-nearer : (low high : ℕ) → MayHave U i number low → MayHave U i number high
        → IsNoFurther number low high → IsMetIn writes offsets order tasks limit (numbered U i number high)
        → IsMetIn writes offsets order tasks limit (numbered U i number low)
    met-nearer low high may may' le =
        met-easier (numbered U i number low) (numbered U i number high)
        (set-numbered U i number set low may) (set-numbered U i number set high may')
        (AreEasier-numbered U i number low high may' le) writes offsets order tasks limit
        (times-kept writes U i number grows low high)

    -- ---- a search over the values of a sheet
    module _ (easiest long : ℕ) (span : IsSpan (task_at U i) number easiest long) where
      abbrev pub met_at : ℕ → Type 0
      met_at far = IsMetIn writes offsets order tasks limit (numbered U i number (at_distance number easiest far))

      abbrev pub passes_at : ℕ → Type 0
      passes_at far = IsPassingOrder (numbered U i number (at_distance number easiest far)) order

      pub met-further : (near far : ℕ) → near ≤ far → far ≤ long → met_at far → met_at near
      met-further near far le within = met-nearer (at_distance number easiest near)
          (at_distance number easiest far) (span.may near (omega (arith, le, within)))
          (span.may far within) (span.rises near far le)

      pub passing-further : (near far : ℕ) → near ≤ far → far ≤ long → passes_at far → passes_at near
      passing-further near far le within = further (λ V. IsPassingOrder V order)
          (λ V U easy. IsPassingOrder-easier V U easy order) U i number easiest long span near far le within

      -- not met with the easiest value it is met with none
      pub none-further : ¬ IsMetIn writes offsets order tasks limit (numbered U i number easiest)
          → NoneMeets writes offsets order tasks limit U i number
      none-further never value may met =
          let (far, within, at) = span.all value may in
          never (subst (λ v. IsMetIn writes offsets order tasks limit (numbered U i number v)) (at-start number easiest)
          (met-further 0 far (omega arith) within
          (subst (λ v. IsMetIn writes offsets order tasks limit (numbered U i number v)) at met)))

      -- so where the order doesn't pass with it
      pub none-passing : ¬ IsPassingOrder (numbered U i number easiest) order
          → NoneMeets writes offsets order tasks limit U i number
      none-passing never = none-further (λ met. never
          (subst (λ o. IsPassingOrder (numbered U i number easiest) o) met.same met.passing.order))

      -- with a value between it is met
      pub sought-meets : (met missing middle : ℕ) (is_bound : Bool)
          → IsSought writes offsets order tasks limit U i number easiest long met missing is_bound → middle < missing
          → met_at middle → IsSought writes offsets order tasks limit U i number easiest long middle missing is_bound
      sought-meets met missing middle is_bound so lt meets = record {
        meets = meets;
        misses = so.misses;
        bound = so.bound;
        free = so.free;
        apart = lt;
        within = so.within;
      }

      -- or the order passes, and it is not
      pub sought-misses : (met missing middle : ℕ) (is_bound : Bool)
          → IsSought writes offsets order tasks limit U i number easiest long met missing is_bound → met < middle
          → middle < missing → passes_at middle × (¬ met_at middle)
          → IsSought writes offsets order tasks limit U i number easiest long met middle true
      sought-misses met missing middle is_bound so lt under here = record {
        meets = so.meets;
        misses = λ far le within meets. here.1 (met-further middle far le within meets);
        bound = λ told. (middle, omega arith, omega (arith, under, so.within), here.0);
        free = λ untold. absurd (true≢false untold);
        apart = lt;
        within = omega (arith, under, so.within);
      }

      -- or it doesn't pass
      pub sought-fails : (met missing middle : ℕ) (is_bound : Bool)
          → IsSought writes offsets order tasks limit U i number easiest long met missing is_bound → met < middle
          → middle < missing → ¬ passes_at middle
          → IsSought writes offsets order tasks limit U i number easiest long met middle is_bound
      sought-fails met missing middle is_bound so lt under fails = record {
        meets = so.meets;
        misses = λ far le within meets. fails (passing-further middle far le within
            (subst (λ o. IsPassingOrder (numbered U i number (at_distance number easiest far)) o) meets.same
            meets.passing.order));
        bound = λ told.
            let (far, past, within, passes) = so.bound told in
            (far, omega (arith, past, under), within, passes);
        free = λ untold far le within passes. fails (passing-further middle far le within passes);
        apart = lt;
        within = omega (arith, under, so.within);
      }

      -- at the end it is the furthest
      pub found : (met missing : ℕ) (is_bound : Bool) (furthest : ℕ) → IsSought writes offsets order tasks limit U i number easiest long met missing is_bound
          → missing ≤ met + 1 → furthest ≡ at_distance number easiest met
          → AnswersReach writes offsets order tasks limit U i number
          (Some record { furthest = furthest; is_bound = is_bound })
      found met missing is_bound furthest so last is =
          rw is (
            last-of (IsMetIn writes offsets order tasks limit) U i number easiest long span met
                (omega (arith, so.apart, so.within)) so.meets
                (λ far lt. so.misses far (omega (arith, lt, last))),
            (
              λ told.
                  let (far, past, within, passes) = so.bound told in
                  record {
                    other = at_distance number easiest far;
                    may = span.may far within;
                    passing = passes;
                    further = past-further number grows easiest met far (omega (arith, past, so.apart));
                  },
              λ more.
                  let (far, within, at) = span.all more.other more.may in
                  elim (cases_Bool is_bound) [
                    | inl told ↦ told
                    | inr untold ↦ elim (cases_lt met far) [
                      | inl lt ↦ absurd (so.free untold far (omega (arith, lt, last)) within
                          (subst (λ v. IsPassingOrder (numbered U i number v) order) at more.passing))
                      | inr le ↦ absurd (more.further
                          (subst (λ v. IsNoFurther number v (at_distance number easiest met)) (sym at)
                          (span.rises far met le)))
                    ]
                  ],
            ),
          )

    -- ---- what the answer says
    pub furthest-each : (most value : ℕ) → IsFurthestMet writes offsets order tasks limit U i number most
        → MayHave U i number value
        → IsMetIn writes offsets order tasks limit (numbered U i number value) ↔ (value ≤ most)
    furthest-each most value is may =
        let same = no_further number grows value most in (
          λ met. same.0 (is.furthest value may met),
          λ le. met-nearer value most may is.may (same.1 le) is.feasible,
        )

    pub furthest-own : (most : ℕ) → IsFurthestMet writes offsets order tasks limit U i number most
        → IsMetIn writes offsets order tasks limit U ↔ (value_of number (task_at U i) ≤ most)
    furthest-own most is =
        subst (λ V. IsMetIn writes offsets order tasks limit V ↔ (value_of number (task_at U i) ≤ most))
        (numbered-own U i number set inside)
        (furthest-each most (value_of number (task_at U i)) is (may-own U i number set inside))

  pub none-met : NoneMeets writes offsets order tasks limit U i number → ¬ IsMetIn writes offsets order tasks limit U
  none-met none = subst (λ V. ¬ IsMetIn writes offsets order tasks limit V) (numbered-own U i number set inside)
      (none (value_of number (task_at U i)) (may-own U i number set inside))

-- ---- at deadlines
module _ (offsets order tasks : List ℕ) (limit : ℕ) (U : List Task) (i : ℕ) (number : Number)
    (set : IsTaskSet U) (grows : Grows number) where
  -- where the order passes with another value, the chain is met with it
  met-anywhere : (most other : ℕ) → IsMetIn AtDeadline offsets order tasks limit (numbered U i number most)
      → MayHave U i number other → IsPassingOrder (numbered U i number other) order
      → IsMetIn AtDeadline offsets order tasks limit (numbered U i number other)
  met-anywhere most other met may passing =
      met-kept (numbered U i number other) (numbered U i number most)
      (set-numbered U i number set other may)
      (length-set U i (with_number number (task_at U i) other)
      ∙ sym (length-set U i (with_number number (task_at U i) most)))
      (times-kept AtDeadline U i number grows other most) offsets order tasks limit passing met

  -- so with none past the furthest does it pass
  pub none-bound : (reach : Reach) → AnswersReach AtDeadline offsets order tasks limit U i number (Some reach)
      → reach.is_bound ≡ false
  none-bound reach (is, bound) = elim (cases_Bool reach.is_bound) [
    | inr free ↦ free
    | inl told ↦
        let more : PassesFurther order U i number reach.furthest = bound.0 told in
        absurd (more.further (is.furthest more.other more.may
        (met-anywhere reach.furthest more.other is.feasible more.may more.passing)))
  ]
