-- Changes keep a roster by rank, with valid sheets and distinct names; so its sheets are a set.
use Rattle.std.proofs.Common.{◌≡◌, ℕ, zero, suc, ◌+◌, ◌≤◌, inl, inr, Bool, true, false, not}
use Rattle.std.proofs.Common.{nat_le, List, [], ◌∷◌, length, insert, position, drop}
use Rattle.std.proofs.Common.{slice_get, Some, None, Ok, Ordering, Less, Equal, Greater, refl, sym}
use Rattle.std.proofs.Common.{◌∙◌, ap, add-one, arith}
use Rattle.std.specs.List.{filter, AllByRecursion, position_or_len}
use Rattle.std.specs.List.Sorted.{IsStrictlySortedBy}
use Rattle.std.specs.Ordering.{is_lt}
use Rattle.std.proofs.lemmas.Bool.{cases_Bool, both_ways}
use Rattle.std.proofs.lemmas.Bool.Decides.{nat_tests}
use Rattle.std.proofs.lemmas.List.{length-map}
use Rattle.std.proofs.lemmas.List.Sums.{prefix_len-le-length}
use Rattle.std.proofs.lemmas.List.Elements.{All-from_recursion}
use Rattle.std.proofs.lemmas.List.Sorted.{IsPermutation-sym}
use Rattle.task_sheet.proofs.Common.{Task, IsValidSheet, same_bytes, rank_cmp, IsByRank, same_name}
use Rattle.task_sheet.proofs.Common.{AreDistinct, IsTaskSet, sheets_fault}
use Rattle.task_sheet.proofs.SetLaws.{rank_total, same_turned, below}
use Rattle.task_sheet.proofs.Unique.{sorted_unique}
use Rattle.task_sheet.specs.Sheet.{AreInterrupts, IsInterrupt}
use Rattle.task_sheet.specs.declared.node.Interrupt.{Interrupt}
use Rattle.overheads.specs.Padding.{charged}
use Rattle.overheads.proofs.ChargedSets.{set-charged, no_fault-charged}
use Rattle.overheads.proofs.PaddedTasks.{valid-other}
use Rattle.drafts.specs.declared.roster.Owned.{Owned}
use Rattle.drafts.specs.declared.change.Change.{Change}
use Rattle.drafts.specs.declared.interrupts.TeamInterrupt.{TeamInterrupt}
use Rattle.drafts.specs.Applied.{sheets_of, said_of, bare, bears_name, without_name, placed}
use Rattle.drafts.specs.Applied.{with_task, after_change, then_on, all_changes, if_few}
use Rattle.drafts.specs.Rosters.{IsRoster, AreWithin}
use Rattle.drafts.proofs.OwnedLaws.{position-some, position-none}

-- ---- a task that is put in

pub all-placed : (P : Task → Type 0) (o : Owned) (ts : List Owned) → P o.sheet
    → AllByRecursion P (sheets_of ts) → AllByRecursion P (sheets_of (placed o ts))
all-placed P o [] h all = (h, tt)
all-placed P o (x ∷ ts) h all = elim (cases_Bool (is_lt (rank_cmp x.sheet o.sheet))) [
  | inl lt ↦ rw lt (all.0, all-placed P o ts h all.1)
  | inr ge ↦ rw ge (h, all)
]

pub less : (r : Ordering) → is_lt r ≡ true → r ≡ Less
less Less e = refl
less Equal e = absurd (both_ways false refl e)
less Greater e = absurd (both_ways false refl e)

pub beyond : (x y : Task) (zs : List Task) → rank_cmp x y ≡ Less
    → AllByRecursion (λ z. rank_cmp y z ≡ Less) zs → AllByRecursion (λ z. rank_cmp x z ≡ Less) zs
beyond x y [] e all = tt
beyond x y (z ∷ zs) e all = (rank_total.trans x y z e all.0, beyond x y zs e all.1)

pub ranked-placed : (o : Owned) (ts : List Owned) → IsStrictlySortedBy rank_cmp (sheets_of ts)
    → AllByRecursion (λ y. same_name o.sheet y ≡ false) (sheets_of ts)
    → IsStrictlySortedBy rank_cmp (sheets_of (placed o ts))
unfolding IsStrictlySortedBy
ranked-placed o [] up apart = (tt, tt)
ranked-placed o (x ∷ ts) up apart = elim (cases_Bool (is_lt (rank_cmp x.sheet o.sheet))) [
  | inl lt ↦ rw lt (
    all-placed (λ y. rank_cmp x.sheet y ≡ Less) o ts
        (less (rank_cmp x.sheet o.sheet) lt) up.0,
    ranked-placed o ts up.1 apart.1,
  )
  | inr ge ↦ let first = below o.sheet x.sheet ge apart.0 in
      rw ge ((first, beyond o.sheet x.sheet (sheets_of ts) first up.0), up)
]

distinct-placed : (o : Owned) (ts : List Owned) → AreDistinct same_name (sheets_of ts) → AllByRecursion
    (λ y. same_name o.sheet y ≡ false) (sheets_of ts) → AreDistinct same_name (sheets_of (placed o ts))
distinct-placed o [] names apart = (tt, tt)
distinct-placed o (x ∷ ts) names apart = elim (cases_Bool (is_lt (rank_cmp x.sheet o.sheet))) [
  | inl lt ↦ rw lt (
    all-placed (λ y. same_name x.sheet y ≡ false) o ts
        (same_turned x.sheet o.sheet ∙ apart.0) names.0,
    distinct-placed o ts names.1 apart.1,
  )
  | inr ge ↦ rw ge (apart, names)
]

-- ---- fewer tasks

module _ (p : Owned → Bool) where
  pub all-kept : (P : Task → Type 0) (ts : List Owned) → AllByRecursion P (sheets_of ts)
      → AllByRecursion P (sheets_of (filter p ts))
  all-kept P [] all = tt
  all-kept P (x ∷ ts) all = elim (cases_Bool (p x)) [
    | inl stays ↦ rw stays (all.0, all-kept P ts all.1)
    | inr goes ↦ rw goes (all-kept P ts all.1)
  ]

  pub ranked-kept : (ts : List Owned) → IsStrictlySortedBy rank_cmp (sheets_of ts)
      → IsStrictlySortedBy rank_cmp (sheets_of (filter p ts))
  unfolding IsStrictlySortedBy
  ranked-kept [] up = tt
  ranked-kept (x ∷ ts) up = elim (cases_Bool (p x)) [
    | inl stays ↦ rw stays
        (all-kept (λ y. rank_cmp x.sheet y ≡ Less) ts up.0, ranked-kept ts up.1)
    | inr goes ↦ rw goes (ranked-kept ts up.1)
  ]

  distinct-kept : (ts : List Owned) → AreDistinct same_name (sheets_of ts)
      → AreDistinct same_name (sheets_of (filter p ts))
  distinct-kept [] names = tt
  distinct-kept (x ∷ ts) names = elim (cases_Bool (p x)) [
    | inl stays ↦ rw stays
        (all-kept (λ y. same_name x.sheet y ≡ false) ts names.0, distinct-kept ts names.1)
    | inr goes ↦ rw goes (distinct-kept ts names.1)
  ]

  pub roster-kept : (ts : List Owned) → IsRoster ts → IsRoster (filter p ts)
  roster-kept ts roster = record {
    valid = all-kept IsValidSheet ts roster.valid;
    ranked = ranked-kept ts roster.ranked;
    distinct = distinct-kept ts roster.distinct;
  }

pub roster_without : (name : List ℕ) (ts : List Owned) → IsRoster ts
    → IsRoster (without_name name ts)
roster_without name ts roster = roster-kept (λ o. not (bears_name name o)) ts roster

pub apart-without : (s : Task) (ts : List Owned)
    → AllByRecursion (λ y. same_name s y ≡ false) (sheets_of (without_name s.name ts))
apart-without s [] = tt
apart-without s (x ∷ ts) = elim (cases_Bool (same_bytes x.sheet.name s.name)) [
  | inl here ↦ rw here (apart-without s ts)
  | inr away ↦ rw away (same_turned s x.sheet ∙ away, apart-without s ts)
]

pub no_interrupts : (xs : List Interrupt) → xs ≡ [] → AreInterrupts xs
no_interrupts [] none = record { valid = λ i d lt. absurd (omega (arith, lt)); few = omega arith }
no_interrupts (x ∷ xs) none = absurd (cc)

pub bare_valid : (s : Task) → IsValidSheet s → IsValidSheet (bare s)
bare_valid s valid =
    valid-other s s.node [] valid valid.overheads (no_interrupts [] refl)

pub roster_with : (o : Owned) (ts : List Owned) → IsValidSheet o.sheet → IsRoster ts
    → IsRoster (with_task o.sheet.name o ts)
roster_with o ts valid roster =
    let others = without_name o.sheet.name ts in
    let kept = roster_without o.sheet.name ts roster in
    let apart = apart-without o.sheet ts in
    record {
      valid = all-placed IsValidSheet o others valid kept.valid;
      ranked = ranked-placed o others kept.ranked apart;
      distinct = distinct-placed o others kept.distinct apart;
    }

-- ---- where a task goes

place_first : (o : Owned) (ts : List Owned)
    → insert ts (position_or_len (λ x. not (is_lt (rank_cmp x.sheet o.sheet))) ts) o ≡ placed o ts
place_first o [] = refl
place_first o (x ∷ ts) = elim (cases_Bool (is_lt (rank_cmp x.sheet o.sheet))) [
  | inl lt ↦
      let n = position_or_len (λ (y : Owned). not (is_lt (rank_cmp y.sheet o.sheet))) ts in
      let e : 1 + n ≡ suc n = omega arith in
      rw (lt, e) (ap (λ xs. x ∷ xs) (place_first o ts))
  | inr ge ↦ rw ge refl
]

pub place_some : (o : Owned) (ts : List Owned) (i : ℕ) → position
    (λ x. not (is_lt (rank_cmp x.sheet o.sheet))) ts ≡ Some i → insert ts i o ≡ placed o ts
place_some o ts i is = ap (λ k. insert ts k o)
    (sym (position-some (λ x. not (is_lt (rank_cmp x.sheet o.sheet))) ts i is).0) ∙ place_first o ts

pub place_none : (o : Owned) (ts : List Owned) → position
    (λ x. not (is_lt (rank_cmp x.sheet o.sheet))) ts ≡ None → insert ts (length ts) o ≡ placed o ts
place_none o ts is =
    let p : Owned → Bool = λ x. not (is_lt (rank_cmp x.sheet o.sheet)) in
    let same : length ts ≡ position_or_len p ts =
    omega (arith, position-none p ts is, prefix_len-le-length (λ x. not (p x)) ts) in
    ap (λ k. insert ts k o) same ∙ place_first o ts

-- ---- the set of a roster

-- the set of sheets that are by rank is the list of them
pub ranked_set : (ss us : List Task) → IsStrictlySortedBy rank_cmp ss → IsByRank ss us → us ≡ ss
ranked_set ss us ranked by =
    sorted_unique rank_total us ss by.ranked ranked (IsPermutation-sym ss us by.permutation)

-- the set of a few tasks with a few interrupts
set-of_roster : (ts : List Owned) → IsRoster ts → length ts ≤ 32 → IsTaskSet (sheets_of ts)
set-of_roster ts roster few = record {
  valid = All-from_recursion IsValidSheet (sheets_of ts) roster.valid;
  ranked = roster.ranked;
  distinct = roster.distinct;
  few = omega (arith, few, length-map ts (λ o. o.sheet));
}

pub are_interrupts : (xs : List TeamInterrupt) → AreWithin xs → length xs ≤ 8
    → AreInterrupts (said_of xs)
are_interrupts xs within few = record {
  valid = All-from_recursion IsInterrupt (said_of xs) within;
  few = omega (arith, few, length-map xs (λ x. x.interrupt));
}

module _ (ts : List Owned) (xs : List TeamInterrupt) (roster : IsRoster ts) (within : AreWithin xs)
    (few : length ts ≤ 32) (some : length xs ≤ 8) where
  pub charged_ranked : IsStrictlySortedBy rank_cmp (charged (said_of xs) (sheets_of ts))
  charged_ranked = (set-charged (sheets_of ts) (said_of xs) (set-of_roster ts roster few)
      (are_interrupts xs within some)).ranked

  pub charged_fits : sheets_fault (charged (said_of xs) (sheets_of ts)) ≡ None
  charged_fits =
      no_fault-charged (sheets_of ts) (said_of xs) (set-of_roster ts roster few)

  pub few_made : if_few xs ts ≡ Ok (record { tasks = ts; interrupts = xs })
  few_made =
      let test : nat_le (length ts) 32 ≡ true = grind (arith, nat_tests) in
      let again : nat_le (length xs) 8 ≡ true = grind (arith, nat_tests) in
      rw (test, again) refl

-- ---- changes, one after the other

pub drop-at : {X : Type 0} (xs : List X) (i : ℕ) (x : X) → slice_get xs i ≡ Some x
    → drop i xs ≡ x ∷ drop (suc i) xs
drop-at [] i x at = cc
drop-at (y ∷ xs) zero x at = let e : y ≡ x = cc in ap (λ z. z ∷ xs) e
drop-at (y ∷ xs) (suc i) x at = drop-at xs i x at

-- the next change, and those behind it
pub next_change : (team : ℕ) (tasks : List Owned) (changes : List (List ℕ × Change)) (i : ℕ)
    (name : List ℕ) (change : Change) → slice_get changes i ≡ Some (name, change)
    → all_changes team tasks (drop i changes) ≡ then_on (after_change team tasks name change)
    (λ ts. all_changes team ts (drop (i + 1) changes))
next_change team tasks changes i name change at =
    rw (add-one, drop-at changes i (name, change) at) refl
