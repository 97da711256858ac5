-- Lists of changes: how long they are, that puts stay on their sheets' names, and their copies.
use Rattle.std.proofs.Common.{◌≡◌, ℕ, zero, suc, ◌+◌, ◌≤◌, inl, inr, true, false, is_some, List, []}
use Rattle.std.proofs.Common.{◌∷◌, length, take, slice_get, Some, refl, sym, ◌∙◌, ap, subst, arith}
use Rattle.std.specs.List.{AllByRecursion, IsDistinct}
use Rattle.std.specs.Map.{keys_of}
use Rattle.std.specs.Cmp.Lexicographic.{nat_list_eq_equiv}
use Rattle.std.proofs.lemmas.Bool.{cases_Bool, both_ways}
use Rattle.std.proofs.lemmas.Bool.Decides.{nat_tests}
use Rattle.std.proofs.lemmas.Slice.Eq.{bytes_eq-Decides}
use Rattle.task_sheet.specs.Sheet.{same_bytes}
use Rattle.drafts.specs.declared.change.Change.{Change}
use Rattle.drafts.specs.Edits.{IsNamed, AreNamed, change_on, recorded, dropped, is_full}

recorded-length : (name : List ℕ) (change : Change) (cs : List (List ℕ × Change))
    → length (recorded name change cs) ≤ length cs + 1
recorded-length name change [] = omega arith
recorded-length name change (c ∷ cs) = elim (cases_Bool (same_bytes name c.0)) [
  | inl same ↦ rw same (omega arith)
  | inr other ↦ rw other (omega (arith, recorded-length name change cs))
]

recorded-there : (name : List ℕ) (change : Change) (cs : List (List ℕ × Change))
    → is_some (change_on name cs) ≡ true → length (recorded name change cs) ≡ length cs
recorded-there name change [] there = absurd (both_ways false refl there)
recorded-there name change (c ∷ cs) there = elim (cases_Bool (same_bytes name c.0)) [
  | inl same ↦ rw same refl
  | inr other ↦ rw other (omega (arith, recorded-there name change cs (rw other at there)))
]

pub recorded_few : (name : List ℕ) (change : Change) (cs : List (List ℕ × Change))
    → is_full name cs ≡ false → length cs ≤ 64 → length (recorded name change cs) ≤ 64
recorded_few name change cs room few = elim (cases_Bool (is_some (change_on name cs))) [
  | inl there ↦ omega (arith, recorded-there name change cs there)
  | inr gone ↦ let short : length cs + 1 ≤ 64 = grind (arith, nat_tests) in
      omega (arith, recorded-length name change cs)
]

dropped-length : (name : List ℕ) (cs : List (List ℕ × Change))
    → length (dropped name cs) ≤ length cs
dropped-length name [] = omega arith
dropped-length name (c ∷ cs) = elim (cases_Bool (same_bytes name c.0)) [
  | inl same ↦ rw same (omega arith)
  | inr other ↦ rw other (omega (arith, dropped-length name cs))
]

pub dropped_few : (name : List ℕ) (cs : List (List ℕ × Change)) → length cs ≤ 64
    → length (dropped name cs) ≤ 64
dropped_few name cs few = omega (arith, dropped-length name cs, few)

-- ---- puts on their sheets' names

pub recorded_named : (name : List ℕ) (change : Change) (cs : List (List ℕ × Change))
    → IsNamed name change → AreNamed cs → AreNamed (recorded name change cs)
recorded_named name change [] one all = (one, tt)
recorded_named name change (c ∷ cs) one all = elim (cases_Bool (same_bytes name c.0)) [
  | inl same ↦
      rw same (subst (λ n. IsNamed n change) ((bytes_eq-Decides name c.0).0 same) one, all.1)
  | inr other ↦ rw other (all.0, recorded_named name change cs one all.1)
]

pub dropped_named : (name : List ℕ) (cs : List (List ℕ × Change)) → AreNamed cs
    → AreNamed (dropped name cs)
dropped_named name [] all = tt
dropped_named name (c ∷ cs) all = elim (cases_Bool (same_bytes name c.0)) [
  | inl same ↦ rw same (all.1)
  | inr other ↦ rw other (all.0, dropped_named name cs all.1)
]

-- ---- a copy, change by change
all-at : (P : List ℕ → Type 0) (cs : List (List ℕ × Change)) (i : ℕ) (name : List ℕ)
    (change : Change) → AllByRecursion P (keys_of cs) → slice_get cs i ≡ Some (name, change)
    → P name
all-at P [] i name change all at = cc
all-at P (c ∷ cs) zero name change all at = let e : c.0 ≡ name = cc in subst P e all.0
all-at P (c ∷ cs) (suc i) name change all at = all-at P cs i name change all.1 at

-- the next one goes last, since its name is new
pub recorded_next : (cs : List (List ℕ × Change)) (i : ℕ) (name : List ℕ) (change : Change)
    → IsDistinct same_bytes (keys_of cs) → slice_get cs i ≡ Some (name, change)
    → recorded name change (take i cs) ≡ take (suc i) cs
unfolding IsDistinct
recorded_next [] i name change apart at = cc
recorded_next (c ∷ cs) zero name change apart at = let e : c ≡ (name, change) = cc in
    ap (λ x. x ∷ []) (sym e)
recorded_next (c ∷ cs) (suc i) name change apart at =
    let away : same_bytes c.0 name ≡ false =
    all-at (λ n. same_bytes c.0 n ≡ false) cs i name change apart.0 at in
    let other : same_bytes name c.0 ≡ false = nat_list_eq_equiv.symm name c.0 ∙ away in
    rw other (ap (λ xs. c ∷ xs) (recorded_next cs i name change apart.1 at))
