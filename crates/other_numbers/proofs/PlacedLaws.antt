-- A set in which another task of the same name and weight takes the place of one has the same ranks.
use Rattle.std.proofs.Common.{◌≡◌, ℕ, zero, suc, ◌<◌, false, None, List, [], ◌∷◌, length}
use Rattle.std.proofs.Common.{get_or, Less, slice_set, ◌∙◌, ap, subst, arith}
use Rattle.std.specs.List.{AllByRecursion}
use Rattle.std.specs.List.Sorted.{IsStrictlySortedBy}
use Rattle.std.proofs.lemmas.List.{length-set}
use Rattle.std.proofs.lemmas.List.Elements.{All-set}
use Rattle.task_sheet.proofs.Common.{Task, IsValidSheet, task_at, rank_cmp}
use Rattle.task_sheet.proofs.Common.{IsByRank, same_name, AreDistinct, IsTaskSet, sheets_fault}
use Rattle.task_sheet.proofs.SetLaws.{IsByRank-is, no_fault}
use Rattle.task_sheet.proofs.TaskLaws.{task_read}

-- the task has the name and the weight of the other one
pub record IsNamesake (x y : Task) : Type 0 where
  pub name : x.name ≡ y.name
  pub weight : x.weight ≡ y.weight

all-turned : (P Q : Task → Type 0) → ((z : Task) → P z → Q z) → (U : List Task) → AllByRecursion P U
    → AllByRecursion Q U
all-turned P Q turn [] h = tt
all-turned P Q turn (y ∷ ys) h = (turn y h.0, all-turned P Q turn ys h.1)

all-placed : (P : Task → Type 0) (x : Task) (U : List Task) (i : ℕ) → (P (task_at U i) → P x)
    → AllByRecursion P U → AllByRecursion P (slice_set U i x)
all-placed P x [] i kept h = tt
all-placed P x (y ∷ ys) zero kept h = (kept h.0, h.1)
all-placed P x (y ∷ ys) (suc i) kept h = (h.0, all-placed P x ys i kept h.1)

ranked-placed : (U : List Task) (i : ℕ) (x : Task) → IsNamesake x (task_at U i)
    → IsStrictlySortedBy rank_cmp U → IsStrictlySortedBy rank_cmp (slice_set U i x)
unfolding IsStrictlySortedBy
ranked-placed [] i x same h = tt
ranked-placed (y ∷ ys) zero x same h = (
  all-turned (λ z. rank_cmp y z ≡ Less)
      (λ z. rank_cmp x z ≡ Less) (λ z before. rw (same.name, same.weight) before) ys h.0,
  h.1,
)
ranked-placed (y ∷ ys) (suc i) x same h = (
  all-placed (λ z. rank_cmp y z ≡ Less) x ys i
      (λ before. rw (same.name, same.weight) before) h.0,
  ranked-placed ys i x same h.1,
)

IsByRank-placed : (U : List Task) (i : ℕ) (x : Task) (V : List Task) → IsNamesake x (task_at U i)
    → IsTaskSet U → IsByRank (slice_set U i x) V → V ≡ slice_set U i x
IsByRank-placed U i x V same valid by_rank =
    IsByRank-is (slice_set U i x) V (ranked-placed U i x same valid.ranked) by_rank

distinct-placed : (U : List Task) (i : ℕ) (x : Task) → IsNamesake x (task_at U i)
    → AreDistinct same_name U → AreDistinct same_name (slice_set U i x)
distinct-placed [] i x same h = tt
distinct-placed (y ∷ ys) zero x same h = (
  all-turned (λ z. same_name y z ≡ false)
      (λ z. same_name x z ≡ false) (λ z apart. rw (same.name) apart) ys h.0,
  h.1,
)
distinct-placed (y ∷ ys) (suc i) x same h = (
  all-placed (λ z. same_name y z ≡ false) x ys i
      (λ apart. rw (same.name) apart) h.0,
  distinct-placed ys i x same h.1,
)

no_fault-placed : (U : List Task) (i : ℕ) (x : Task) → IsNamesake x (task_at U i) → IsTaskSet U
    → sheets_fault (slice_set U i x) ≡ None
no_fault-placed U i x same valid =
    no_fault (slice_set U i x) (distinct-placed U i x same valid.distinct)
    (omega (arith, valid.few, length-set U i x))

-- with a valid sheet it is a set
pub IsTaskSet-placed : (U : List Task) (i : ℕ) (x : Task) → IsNamesake x (task_at U i) → IsTaskSet U
    → IsValidSheet x → IsTaskSet (slice_set U i x)
IsTaskSet-placed U i x same set valid = record {
  valid = All-set IsValidSheet U i x valid set.valid;
  ranked = ranked-placed U i x same set.ranked;
  distinct = distinct-placed U i x same set.distinct;
  few = omega (arith, set.few, length-set U i x);
}

-- ---- sheets that are those of a set, with one that was read and made another
module _ (U sheets read : List Task) (i : ℕ) (made old : Task) (other : Task → Task)
    (set : IsTaskSet U) (inside : i < length U)
    (copied : sheets ≡ U) (same : read ≡ U) (is : old ≡ get_or read i old) (written : made
    ≡ other old) (namesake : IsNamesake (other (task_at U i)) (task_at U i)) where
  sheets-are : slice_set sheets i made ≡ slice_set U i (other (task_at U i))
  sheets-are =
      ap (λ (xs : List Task). slice_set xs i made) copied
      ∙ ap (λ (t : Task). slice_set U i t)
      (written ∙ ap other (task_read U read i old same inside is))

  -- by rank they stand as they are
  pub placed-is : (V : List Task) → IsByRank (slice_set sheets i made) V
      → V ≡ slice_set U i (other (task_at U i))
  placed-is V by_rank =
      IsByRank-placed U i (other (task_at U i)) V namesake set
      (subst (λ (xs : List Task). IsByRank xs V) sheets-are by_rank)

  -- they are a set: the names are the same, and as many
  pub placed-fine : sheets_fault (slice_set sheets i made) ≡ None
  placed-fine = ap sheets_fault sheets-are ∙ no_fault-placed U i (other (task_at U i)) namesake set
