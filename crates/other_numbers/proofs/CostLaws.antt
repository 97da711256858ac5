-- Sets that differ in one task, and the costs that a sheet may have.
use Rattle.std.proofs.Common.{◌≡◌, ℕ, ◌+◌, ◌<◌, ◌≤◌, inl, inr, List, [], ◌∷◌, length, slice_set, refl}
use Rattle.std.proofs.Common.{sym, ◌∙◌, arith}
use Rattle.std.proofs.Math.ListN.{get_or-eq_default}
use Rattle.std.specs.List.{AllByRecursion}
use Rattle.std.proofs.lemmas.Bool.{cases_eq, cases_lt}
use Rattle.std.proofs.lemmas.List.{get_or-set_same, get_or-set_other, length-set}
use Rattle.task_sheet.proofs.Common.{CriticalSection, Task, AreSections, IsValidSheet, no_task}
use Rattle.task_sheet.proofs.Common.{task_at, greatest_of}
use Rattle.task_sheet.proofs.Below.{greatest_of-le}
use Rattle.task_sheet.proofs.Releases.{div_ceil-mono}
use Rattle.other_numbers.specs.Costs.{with_cost, last_end, costed, delayed}
use Rattle.other_numbers.specs.Easier.{IsEasier, AreEasier}
use Rattle.other_numbers.proofs.EasierLaws.{easier-by, easier-same, shorter-refl, cheaper-refl}

-- ---- one task alone
-- a set in which task i takes the place of another
abbrev placed : List Task → ℕ → Task → List Task
placed U i x = slice_set U i x

-- at another index a set is as it was, and past the end there is no task
pub placed-other : (U : List Task) (i : ℕ) (x : Task) (k : ℕ) → (k ≡ i → ⊥)
    → task_at (placed U i x) k ≡ task_at U k
placed-other U i x k ne = get_or-set_other U i k x no_task ne

pub placed-same : (U : List Task) (i : ℕ) (x : Task) → i < length U → task_at (placed U i x) i ≡ x
placed-same U i x lt = get_or-set_same U i x no_task lt

placed-outside : (U : List Task) (i : ℕ) (x : Task) → length U ≤ i
    → task_at (placed U i x) i ≡ task_at U i
placed-outside U i x past = get_or-eq_default (placed U i x) no_task
    (omega (arith, length-set U i x)) ∙ sym (get_or-eq_default U no_task past)

placed-at : (U : List Task) (i : ℕ) (low high : Task) → IsEasier low high
    → IsEasier (task_at (placed U i low) i) (task_at (placed U i high) i)
placed-at U i low high le = elim (cases_lt i (length U)) [
  | inr past ↦ easier-same (task_at U i) _ _ (placed-outside U i low past)
      (placed-outside U i high past)
  | inl lt ↦ rw (placed-same U i low lt, placed-same U i high lt) le
]

pub AreEasier-placed : (U : List Task) (i : ℕ) (low high : Task) → IsEasier low high
    → AreEasier (placed U i low) (placed U i high)
AreEasier-placed U i low high le = record {
  count = length-set U i low ∙ sym (length-set U i high);
  each = λ k. elim (cases_eq k i) [
    | inr ne ↦ easier-same (task_at U k) _ _ (placed-other U i low k ne)
        (placed-other U i high k ne)
    | inl e ↦ rw e (placed-at U i low high le)
  ];
}

pub AreEasier-costed : (U : List Task) (i low high : ℕ) → low ≤ high
    → AreEasier (costed U i low) (costed U i high)
AreEasier-costed U i low high le = AreEasier-placed U i _ _ (easier-by _ _ refl refl refl le
    (omega arith) (λ time. omega arith) (omega arith) (shorter-refl _) (cheaper-refl _))

pub AreEasier-delayed : (U : List Task) (i low high : ℕ) → low ≤ high
    → AreEasier (delayed U i low) (delayed U i high)
AreEasier-delayed U i low high le = AreEasier-placed U i _ _ (easier-by _ _ refl refl refl (omega arith)
    le (λ time. div_ceil-mono (time + low) (time + high) _ (omega (arith, le))) (omega arith)
    (shorter-refl _) (cheaper-refl _))

-- ---- the costs that a sheet may have
-- sections that end within a cost stand within it
sections-within : (from cost other : ℕ) (xs : List CriticalSection) → AreSections from cost xs
    → AllByRecursion (λ (s : CriticalSection). s.at + s.len ≤ other) xs → AreSections from other xs
sections-within from cost other [] h ends = tt
sections-within from cost other (x ∷ xs) h ends = (
  record {
    named = h.0.named;
    some = h.0.some;
    few = h.0.few;
    distinct = h.0.distinct;
    runs = h.0.runs;
    apart = h.0.apart;
    within = ends.0;
  },
  sections-within (x.at + x.len) cost other xs h.1 ends.1,
)

sections-end : (from cost : ℕ) (xs : List CriticalSection) → AreSections from cost xs
    → AllByRecursion (λ (s : CriticalSection). s.at + s.len ≤ cost) xs
sections-end from cost [] h = tt
sections-end from cost (x ∷ xs) h = (h.0.within, sections-end (x.at + x.len) cost xs h.1)

abbrev pub section_end : CriticalSection → ℕ
section_end s = s.at + s.len

-- the last section of a valid sheet ends within its cost
pub last_end-within : (t : Task) → IsValidSheet t → last_end t ≤ t.cost
last_end-within t valid =
    greatest_of-le section_end t.cost t.sections (sections-end 0 t.cost t.sections valid.sections)

ends-below : (m : ℕ) (xs : List CriticalSection) → greatest_of section_end xs ≤ m
    → AllByRecursion (λ (s : CriticalSection). s.at + s.len ≤ m) xs
ends-below m [] le = tt
ends-below m (x ∷ xs) le = (omega (arith, le), ends-below m xs (omega (arith, le)))

-- a sheet may have each cost from 1 and from the end of its last section to its period
pub may_cost : (t : Task) (cost : ℕ) → IsValidSheet t → 0 < cost → cost ≤ t.period
    → last_end t ≤ cost → IsValidSheet (with_cost t cost)
may_cost t cost valid from to end = record {
  named = valid.named;
  weight = valid.weight;
  period_from = valid.period_from;
  period_to = valid.period_to;
  deadline_from = valid.deadline_from;
  deadline_to = valid.deadline_to;
  cost_from = from;
  cost_to = to;
  few = valid.few;
  sections =
      sections-within 0 t.cost cost t.sections valid.sections (ends-below cost t.sections end);
  jitter = valid.jitter;
  outranked = valid.outranked;
  overheads = valid.overheads;
  interrupts = valid.interrupts;
}
