-- Sheets and the first that repeats a name; sheets sorted by rank are a set.
use Rattle.std.proofs.Common.{◌≡◌, ℕ, ◌+◌, ◌<◌, ◌≤◌, Bool, true, false, cond, ◌||◌, List, [], ◌∷◌}
use Rattle.std.proofs.Common.{◌++◌, length, get_or, take, drop, Option, Some, None, Ordering, Less}
use Rattle.std.proofs.Common.{Equal, Greater, refl, sym, ◌∙◌, ap, arith, not, length-append}
use Rattle.std.proofs.Common.{append_assoc}
use Rattle.std.specs.List.{list_any, filter, AllByRecursion, All}
use Rattle.std.specs.List.Sorted.{IsPermutation, IsSortedBy, IsStrictlySortedBy}
use Rattle.std.specs.Ordering.{nat_cmp, is_lt, is_eq, ordering_then, ordering_reverse}
use Rattle.std.specs.Cmp.{IsTotalOrder, IsEquivalence, then_total, on_total, on_equiv}
use Rattle.std.specs.Cmp.{nat_cmp_total}
use Rattle.std.specs.Cmp.Lexicographic.{slice_cmp, nat_list_cmp_total, nat_list_eq_equiv}
use Rattle.std.specs.Cmp.Lexicographic.{texts_ties}
use Rattle.std.proofs.Math.Path.{fun_ext}
use Rattle.std.proofs.lemmas.Bool.{false≢true, le-ltb}
use Rattle.std.proofs.lemmas.Bool.Decides.{nat_tests}
use Rattle.std.proofs.lemmas.List.{drop_more, take_more}
use Rattle.std.proofs.lemmas.List.Folds.{list_any-append}
use Rattle.std.proofs.lemmas.List.Sums.{length-filter, count_by-le-length}
use Rattle.std.proofs.lemmas.List.Elements.{recursion_from_All, All-from_recursion, All-push}
use Rattle.std.proofs.lemmas.List.Elements.{All-filter, filter_more}
use Rattle.std.proofs.lemmas.List.Sorted.{All-permutation, length_permutation, IsPermutation-sym}
use Rattle.std.proofs.lemmas.List.Sorted.{IsPermutation-trans}
use Rattle.std.proofs.lemmas.Map.Keys.{sorted_from_all_adjacent, apart_from_distinct}
use Rattle.std.proofs.lemmas.Map.Keys.{IsDistinct-push}
use Rattle.task_sheet.specs.Sheet.{Task, IsValidSheet, no_task, same_bytes}
use Rattle.task_sheet.specs.Rank.{rank_cmp, IsByRank}
use Rattle.task_sheet.specs.TaskSet.{first_repeat, has_name, others_of, same_name, AreDistinct}
use Rattle.task_sheet.specs.TaskSet.{IsTaskSet}
use Rattle.task_sheet.specs.SheetsFault.{set_cause, sheets_fault}
use Rattle.task_sheet.proofs.Distinct.{std_distinct, are_distinct, AreDistinct-permutation}
use Rattle.task_sheet.proofs.Unique.{sorted_unique}
use Rattle.std.proofs.lemmas.List.Kept.{IsStrictlySortedBy-filter}

-- ---- one more sheet

same_either : (a b : Bool) → cond a true b ≡ (b || (a || false))
same_either a b = grind (arith, nat_tests)

-- its name is added to those that are seen
pub names_step : (xs : List Task) (i : ℕ) (d : Task) (q : List ℕ) (b old : Bool) → i < length xs
    → d ≡ get_or xs i d → old ≡ has_name (take i xs) q
    → b ≡ cond (is_eq (slice_cmp nat_cmp d.name q)) true old → b ≡ has_name (take (i + 1) xs) q
names_step xs i d q b old h same e step =
    step ∙ rw (
      take_more xs i d h,
      ← same,
      list_any-append (λ x. same_bytes x.name q) (take i xs)
          (d ∷ []),
      ← e,
      texts_ties d.name q,
    ) (same_either (is_eq (slice_cmp nat_cmp d.name q)) old)

-- its name is taken or new
pub repeat_step : (xs : List Task) (i : ℕ) (d : Task) (b : Bool) → i < length xs → d ≡ get_or xs i d
    → b ≡ has_name (take i xs) d.name
    → first_repeat (take i xs) (i + 1) (drop i xs)
    ≡ cond b (Some (i + 1)) (first_repeat (take (i + 1) xs) ((i + 1) + 1) (drop (i + 1) xs))
repeat_step xs i d b h same e = rw (drop_more xs i d h, take_more xs i d h, ← same, e)

-- ---- the order

same_equiv : IsEquivalence same_name
same_equiv = on_equiv (λ x. x.name) nat_list_eq_equiv

pub same_turned : (x y : Task) → same_name x y ≡ same_name y x
same_turned = same_equiv.symm

pub rank_total : IsTotalOrder rank_cmp
rank_total =
    then_total (on_total (λ x. x.weight) nat_cmp_total) (on_total (λ x. x.name) nat_list_cmp_total)

tied_names : (x y : Task) → rank_cmp x y ≡ Equal → same_name x y ≡ true
tied_names x y e = texts_ties x.name y.name
    ∙ second (nat_cmp x.weight y.weight) (slice_cmp nat_cmp x.name y.name) e
  where
    second : (o p : Ordering) → ordering_then o p ≡ Equal → is_eq p ≡ true
    second Less p e = cc
    second Equal p e = rw e
    second Greater p e = cc

-- what is not after another, and has another name, is before it
pub below : (x y : Task) → is_lt (rank_cmp y x) ≡ false → same_name x y ≡ false
    → rank_cmp x y ≡ Less
below x y h apart = by (rank_cmp x y) refl
  where
    by : (o : Ordering) → rank_cmp x y ≡ o → o ≡ Less
    by Less e = refl
    by Equal e = absurd (false≢true (sym apart ∙ tied_names x y e))
    by Greater e =
        absurd (false≢true (sym h ∙ ap is_lt (rank_total.antisymm y x ∙ ap ordering_reverse e)))

-- ---- distinct names repeat none

unseen : (seen : List Task) (x : Task) (xs : List Task) → AreDistinct same_name (seen ++ x ∷ xs)
    → has_name seen x.name ≡ false
unseen [] x xs distinct = refl
unseen (y ∷ seen) x xs distinct = rw (other seen distinct.0, unseen seen x xs distinct.1)
  where
    other : (zs : List Task) → AllByRecursion (λ z. same_name y z ≡ false) (zs ++ x ∷ xs)
        → same_name y x ≡ false
    other [] h = h.0
    other (z ∷ zs) h = other zs h.1

never_repeats : (seen : List Task) (place : ℕ) (xs : List Task)
    → AreDistinct same_name (seen ++ xs) → first_repeat seen place xs ≡ None
never_repeats seen place [] distinct = refl
never_repeats seen place (x ∷ xs) distinct = rw (unseen seen x xs distinct)
    (never_repeats (seen ++ x ∷ []) (place + 1) xs (rw append_assoc distinct))

-- so many sheets of distinct names have no fault
pub no_fault : (xs : List Task) → AreDistinct same_name xs → length xs ≤ 32 → sheets_fault xs ≡ None
no_fault xs distinct few =
    ap (λ (o : Option ℕ). set_cause o xs) (never_repeats [] 1 xs distinct)
    ∙ rw (le-ltb 32 (length xs) few) refl

-- ---- the set of some sheets

pub sorted_set : (xs ys : List Task) → All IsValidSheet xs → AreDistinct same_name xs
    → length xs ≤ 32 → IsPermutation xs ys
    → IsSortedBy (λ x y. is_lt (rank_cmp x y)) ys → IsTaskSet ys
sorted_set xs ys valid distinct few p up =
    let apart = AreDistinct-permutation same_name same_turned xs ys p distinct in
    record {
      valid = All-permutation IsValidSheet xs ys p valid;
      ranked = sorted_from_all_adjacent rank_total ys no_task (λ k lt.
          below (get_or ys k no_task) (get_or ys (k + 1) no_task) (up k no_task (omega arith) lt)
          (apart_from_distinct same_name ys k (k + 1) no_task (std_distinct same_name ys apart)
          (omega arith) lt));
      distinct = apart;
      few = omega (arith, length_permutation xs ys p);
    }

-- the same sheets by rank are one list
pub by_rank_one : (xs ys us vs : List Task) → IsPermutation xs ys → IsByRank xs us → IsByRank ys vs
    → us ≡ vs
by_rank_one xs ys us vs p h g =
    sorted_unique rank_total us vs h.ranked g.ranked
    (IsPermutation-trans us xs vs (IsPermutation-sym xs us h.permutation)
    (IsPermutation-trans xs ys vs p g.permutation))

-- sheets that stand by rank are what they are by rank
pub IsByRank-is : (xs us : List Task) → IsStrictlySortedBy rank_cmp xs → IsByRank xs us → us ≡ xs
IsByRank-is xs us ranked by =
    sorted_unique rank_total us xs by.ranked ranked (IsPermutation-sym xs us by.permutation)

-- ---- one sheet more, or one less

pub distinct_more : (xs : List Task) (x : Task) → AreDistinct same_name xs
    → has_name xs x.name ≡ false → AreDistinct same_name (xs ++ x ∷ [])
distinct_more xs x apart new = are_distinct same_name (xs ++ x ∷ [])
    (IsDistinct-push same_equiv xs x (std_distinct same_name xs apart)
    (ap (λ p. list_any p xs) (fun_ext (same_turned x)) ∙ new))

-- a set and one more sheet
pub record AreSheets (xs : List Task) : Type 0 where
  pub valid : All IsValidSheet xs
  pub distinct : AreDistinct same_name xs
  pub few : length xs ≤ 32

pub sheets_more : (xs : List Task) (x : Task) → IsTaskSet xs → IsValidSheet x
    → has_name xs x.name ≡ false → length xs < 32 → AreSheets (xs ++ x ∷ [])
sheets_more xs x set valid new room = record {
  valid = All-push IsValidSheet xs x set.valid valid;
  distinct = distinct_more xs x set.distinct new;
  few = omega (arith, length-append xs (x ∷ []));
}

distinct_less : (p : Task → Bool) (xs : List Task) → AreDistinct same_name xs
    → AreDistinct same_name (filter p xs)
distinct_less p [] h = tt
distinct_less p (x ∷ xs) h =
    let P : Task → Type 0 = λ y. same_name x y ≡ false in
    let rest = distinct_less p xs h.1 in
    elim (p x) as (λ b. AreDistinct same_name (cond b (x ∷ filter p xs) (filter p xs))) [
      | true ↦ (recursion_from_All P _ (All-filter p P xs (All-from_recursion P xs h.0)), rest)
      | false ↦ rest
    ]

pub set_less : (xs : List Task) (name : List ℕ) → IsTaskSet xs → IsTaskSet (others_of xs name)
set_less xs name set =
    let p : Task → Bool = λ x. not (same_bytes x.name name) in
    record {
      valid = All-filter p IsValidSheet xs set.valid;
      ranked = IsStrictlySortedBy-filter rank_cmp p xs set.ranked;
      distinct = distinct_less p xs set.distinct;
      few = omega (arith, set.few, length-filter p xs, count_by-le-length p xs);
    }

-- ---- one more sheet of which the others are kept

pub others_next : (xs : List Task) (i : ℕ) (d : Task) (name : List ℕ) (b : Bool) → i < length xs
    → d ≡ get_or xs i d → b ≡ not (same_bytes d.name name)
    → others_of (take (i + 1) xs) name ≡ others_of (take i xs) name ++ cond b (d ∷ []) []
others_next xs i d name b lt e is =
    filter_more (λ x. not (same_bytes x.name name)) xs i d lt
    ∙ ap (λ (x : Task). others_of (take i xs) name
    ++ cond (not (same_bytes x.name name)) (x ∷ []) []) (sym e)
    ∙ ap (λ (y : Bool). others_of (take i xs) name ++ cond y (d ∷ []) []) (sym is)
