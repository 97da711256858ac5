-- A set with another task of the same names and sections in the place of one has the same locks: one table serves both.
use Rattle.std.proofs.Common.{◌≡◌, ℕ, zero, suc, ◌≤◌, List, [], ◌∷◌, ◌++◌, length, slice_set}
use Rattle.std.proofs.Common.{flat_map, refl, sym, ◌∙◌, ap, arith}
use Rattle.std.specs.List.{list_any}
use Rattle.std.proofs.lemmas.List.{length-set}
use Rattle.task_sheet.proofs.Common.{CriticalSection, Task, task_at, indexes_of, names_lock}
use Rattle.task_sheet.proofs.Common.{must_outrank}
use Rattle.ceilings.specs.Table.{Table}
use Rattle.ceilings.specs.Holds.{TableData}
use Rattle.ceilings.specs.IsTableOf.{AreUsersOf, IsTableOf, names_in, first_sights}
use Rattle.other_numbers.proofs.EasierLaws.{outside-same}
use Rattle.limits.specs.declared.number.Number.{Number}
use Rattle.limits.specs.declared.number.Number.TheVariants.{Cost, Period, Deadline, Jitter, Len}
use Rattle.limits.specs.declared.number.Number.TheVariants.{InterruptCost, InterruptPeriod}
use Rattle.limits.specs.Numbers.{numbered, KeepsSections}

pub same-placed : {R : Type 0} (of : Task → R) (x : Task) (U : List Task) (i : ℕ)
    → of x ≡ of (task_at U i) → (k : ℕ) → of (task_at (slice_set U i x) k) ≡ of (task_at U k)
same-placed of x [] i same k = refl
same-placed of x (y ∷ ys) zero same zero = same
same-placed of x (y ∷ ys) zero same (suc k) = refl
same-placed of x (y ∷ ys) (suc i) same zero = refl
same-placed of x (y ∷ ys) (suc i) same (suc k) = same-placed of x ys i same k

names-placed : (x : Task) (U : List Task) (i : ℕ) → x.sections ≡ (task_at U i).sections
    → names_in (slice_set U i x) ≡ names_in U
names-placed x [] i same = refl
names-placed x (y ∷ ys) zero same = ap (λ (ss : List CriticalSection). flat_map
    (λ (s : CriticalSection). s.locks) ss ++ names_in ys) same
names-placed x (y ∷ ys) (suc i) same =
    ap (λ (ns : List (List ℕ)). flat_map (λ (s : CriticalSection). s.locks) y.sections ++ ns)
    (names-placed x ys i same)

module _ (U : List Task) (i : ℕ) (x : Task) (name : x.name ≡ (task_at U i).name) (outranks :
    x.outranks ≡ (task_at U i).outranks) (sections : x.sections ≡ (task_at U i).sections) where
  sections-placed : (k : ℕ) → (task_at (slice_set U i x) k).sections ≡ (task_at U k).sections
  sections-placed k = same-placed (λ (t : Task). t.sections) x U i sections k

  outrank-placed : (j k : ℕ) → must_outrank (slice_set U i x) j k ≡ must_outrank U j k
  outrank-placed j k =
      let said = same-placed (λ (t : Task). t.outranks) x U i outranks in
      rw (same-placed (λ (t : Task). t.name) x U i name k, said k, said j) refl

  few-placed : length U ≤ 32 → length (slice_set U i x) ≤ 32
  few-placed few = omega (arith, few, length-set U i x)

  AreUsersOf-placed : (table : Table) → AreUsersOf U table → AreUsersOf (slice_set U i x) table
  AreUsersOf-placed table are = record {
    few = few-placed are.few;
    locks = are.locks ∙ ap first_sights (sym (names-placed x U i sections));
    users = λ lock k. are.users lock k
        ∙ ap (λ (xs : List CriticalSection). list_any (λ s. names_lock s lock) xs)
        (sym (sections-placed k));
  }

  pub IsTableOf-placed : (table : TableData) → IsTableOf U table → IsTableOf (slice_set U i x) table
  IsTableOf-placed table is = record {
    few = few-placed is.few;
    users = AreUsersOf-placed table.users is.users;
    holds = λ members. is.holds members ∙ sym (outside-same (slice_set U i x) U (indexes_of members)
        (length-set U i x) sections-placed);
    outranked = λ j k lt within.
        let count = length-set U i x in
        is.outranked j k (omega (arith, lt, count)) (omega (arith, within, count))
        ∙ sym (outrank-placed j k);
  }

pub IsTableOf-numbered : (U : List Task) (i : ℕ) (number : Number) (value : ℕ) (table : TableData)
    → KeepsSections number → IsTableOf U table → IsTableOf (numbered U i number value) table
IsTableOf-numbered U i Cost value table keeps is =
    IsTableOf-placed U i _ refl refl refl table is
IsTableOf-numbered U i Period value table keeps is =
    IsTableOf-placed U i _ refl refl refl table is
IsTableOf-numbered U i Deadline value table keeps is =
    IsTableOf-placed U i _ refl refl refl table is
IsTableOf-numbered U i Jitter value table keeps is =
    IsTableOf-placed U i _ refl refl refl table is
IsTableOf-numbered U i (Len k along) value table keeps is = absurd keeps
IsTableOf-numbered U i (InterruptCost k) value table keeps is =
    IsTableOf-placed U i _ refl refl refl table is
IsTableOf-numbered U i (InterruptPeriod k) value table keeps is =
    IsTableOf-placed U i _ refl refl refl table is
