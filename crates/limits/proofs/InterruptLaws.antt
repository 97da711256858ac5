-- What another cost or period of an interrupt does to a task.
use Rattle.std.proofs.Common.{◌≡◌, ℕ, zero, suc, ◌+◌, ◌-◌, ◌<◌, ◌≤◌, max, List, [], ◌∷◌, length}
use Rattle.std.proofs.Common.{slice_set, subst, arith}
use Rattle.std.specs.List.{AllZip}
use Rattle.std.proofs.lemmas.List.{length-set, get_or-set_same}
use Rattle.std.proofs.lemmas.List.Elements.{All-set}
use Rattle.task_sheet.specs.declared.node.Interrupt.{Interrupt}
use Rattle.task_sheet.specs.Sheet.{Task, IsInterrupt, AreInterrupts, IsValidSheet}
use Rattle.limits.specs.declared.number.Number.TheVariants.{InterruptCost, InterruptPeriod}
use Rattle.limits.specs.Numbers.{no_interrupt, interrupt_at, with_interrupt_cost}
use Rattle.limits.specs.Numbers.{with_interrupt_period, IsSpan}
use Rattle.other_numbers.specs.Easier.{IsCheaper}
use Rattle.other_numbers.proofs.EasierLaws.{jobs-rarer, cheaper-refl}

-- ---- to come less often, or to take less
pub cheaper-cost : (xs : List Interrupt) (k low high : ℕ) → low ≤ high
    → AllZip (IsCheaper ◌≤◌) (with_interrupt_cost xs k low) (with_interrupt_cost xs k high)
cheaper-cost [] k low high le = tt
cheaper-cost (x ∷ xs) zero low high le =
    (record { rarer = λ time. omega arith; cost = le }, cheaper-refl xs)
cheaper-cost (x ∷ xs) (suc k) low high le =
    (record { rarer = λ time. omega arith; cost = omega arith }, cheaper-cost xs k low high le)

pub cheaper-period : (xs : List Interrupt) (k long short : ℕ) → (k < length xs → 0 < short)
    → short ≤ long → AllZip (IsCheaper ◌≤◌) (with_interrupt_period xs k long) (with_interrupt_period xs k short)
cheaper-period [] k long short some le = tt
cheaper-period (x ∷ xs) zero long short some le = (
  record {
    rarer = λ time. jobs-rarer long short 0 0 time (some (omega arith)) le (omega arith);
    cost = omega arith;
  },
  cheaper-refl xs,
)
cheaper-period (x ∷ xs) (suc k) long short some le = (
  record { rarer = λ time. omega arith; cost = omega arith },
  cheaper-period xs k long short (λ lt. some (omega (arith, lt))) le,
)

-- ---- which values a valid sheet may have
placed-valid : (xs : List Interrupt) (k : ℕ) (x : Interrupt) → AreInterrupts xs → IsInterrupt x
    → AreInterrupts (slice_set xs k x)
placed-valid xs k x are is = record {
  valid = All-set IsInterrupt xs k x is are.valid;
  few = omega (arith, are.few, length-set xs k x);
}

pub placed-read : (xs : List Interrupt) (k : ℕ) (x : Interrupt) → k < length xs
    → AreInterrupts (slice_set xs k x) → IsInterrupt x
placed-read xs k x lt are = subst IsInterrupt (get_or-set_same xs k x no_interrupt lt)
    (are.valid k no_interrupt (omega (arith, lt, length-set xs k x)))

pub valid-interrupt : (t : Task) (k : ℕ) → IsValidSheet t → k < length t.interrupts
    → IsInterrupt (interrupt_at t.interrupts k)
valid-interrupt t k valid lt = valid.interrupts.valid k no_interrupt lt

valid-interrupts : (t : Task) (xs : List Interrupt) → IsValidSheet t → AreInterrupts xs
    → IsValidSheet (record t { interrupts = xs })
valid-interrupts t xs valid are = record {
  named = valid.named;
  weight = valid.weight;
  period_from = valid.period_from;
  period_to = valid.period_to;
  deadline_from = valid.deadline_from;
  deadline_to = valid.deadline_to;
  cost_from = valid.cost_from;
  cost_to = valid.cost_to;
  few = valid.few;
  sections = valid.sections;
  jitter = valid.jitter;
  outranked = valid.outranked;
  overheads = valid.overheads;
  interrupts = are;
}

pub IsSpan-interrupt_cost : (t : Task) (k long : ℕ) → IsValidSheet t → k < length t.interrupts
    → long ≡ (interrupt_at t.interrupts k).period → IsSpan t (InterruptCost k) 0 long
IsSpan-interrupt_cost t k long valid lt to =
    let own = valid-interrupt t k valid lt in
    record {
      may = λ far le. valid-interrupts t (with_interrupt_cost t.interrupts k (0 + far)) valid
          (placed-valid t.interrupts k _ valid.interrupts record {
            period_from = own.period_from;
            period_to = own.period_to;
            cost = omega (arith, le, to);
          });
      all = λ value may. let is = placed-read t.interrupts k _ lt may.interrupts in
          (value, omega (arith, to, is.cost), omega arith);
      rises = λ near far le. omega (arith, le);
    }

pub IsSpan-interrupt_period : (t : Task) (k least long : ℕ) → IsValidSheet t
    → k < length t.interrupts → least ≡ max (interrupt_at t.interrupts k).cost 100
    → long ≡ 10000000 - least → IsSpan t (InterruptPeriod k) 10000000 long
IsSpan-interrupt_period t k least long valid lt from to =
    let own = valid-interrupt t k valid lt in
    let fits : least ≤ 10000000 = omega (arith, from, own.cost, own.period_to) in
    record {
      may = λ far le. valid-interrupts t
          (with_interrupt_period t.interrupts k (10000000 - far)) valid
          (placed-valid t.interrupts k _ valid.interrupts record {
            period_from = omega (arith, le, to, from, fits);
            period_to = omega arith;
            cost = omega (arith, le, to, from, fits);
          });
      all = λ value may. let is = placed-read t.interrupts k _ lt may.interrupts in (
        10000000 - value,
        omega (arith, to, from, is.cost, is.period_from),
        omega (arith, is.period_to),
      );
      rises = λ near far le. omega (arith, le);
    }
