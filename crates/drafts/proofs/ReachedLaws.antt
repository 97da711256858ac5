-- The tasks by rank with their teams are a finite map from names: two rosters that hold the same under each are one.
use Rattle.std.proofs.Common.{◌≡◌, ℕ, inl, inr, true, false, List, [], ◌∷◌, Some, None, Less, Equal}
use Rattle.std.proofs.Common.{refl, sym, ◌∙◌, ap, subst}
use Rattle.std.specs.List.{AllByRecursion}
use Rattle.std.specs.List.Sorted.{IsStrictlySortedBy}
use Rattle.std.specs.Ordering.{is_lt}
use Rattle.std.specs.Cmp.{tied_itself}
use Rattle.std.proofs.lemmas.Bool.{cases_Bool, both_ways}
use Rattle.std.proofs.lemmas.Slice.Eq.{bytes_eq-Decides}
use Rattle.task_sheet.proofs.Common.{Task, same_bytes, rank_cmp, same_name, AreDistinct}
use Rattle.task_sheet.proofs.SetLaws.{rank_total, same_turned, below}
use Rattle.drafts.specs.declared.roster.Owned.{Owned}
use Rattle.drafts.specs.Applied.{sheets_of, bears_name, held, without_name, placed, with_task}
use Rattle.drafts.specs.Rosters.{IsRoster}
use Rattle.drafts.proofs.RosterLaws.{less, beyond}

-- what each has, the one that is held has
of_held : (P : Task → Type 0) (n : List ℕ) (ts : List Owned) (z : Owned)
    → AllByRecursion P (sheets_of ts) → held n ts ≡ Some z → P z.sheet
of_held P n [] z all is = cc
of_held P n (x ∷ ts) z all is = elim (cases_Bool (bears_name n x)) [
  | inl here ↦ let found : Some x ≡ Some z = (rw here at is) in let e : x ≡ z = cc in
      subst (λ (o : Owned). P o.sheet) e all.0
  | inr away ↦ of_held P n ts z all.1 (rw away at is)
]

-- none of a name that none has
pub none_held : (n : List ℕ) (x : Owned) (ts : List Owned) → bears_name n x ≡ true
    → AllByRecursion (λ y. same_name x.sheet y ≡ false) (sheets_of ts) → held n ts ≡ None
none_held n x [] named apart = refl
none_held n x (y ∷ ts) named apart =
    let e : x.sheet.name ≡ n = (bytes_eq-Decides x.sheet.name n).0 named in
    let away : bears_name n y ≡ false = ap (λ m. same_bytes y.sheet.name m) (sym e)
    ∙ same_turned y.sheet x.sheet ∙ apart.0 in
    rw away (none_held n x ts named apart.1)

-- what is held under its name isn't before all
not_before_all : (x : Owned) (n : List ℕ) (ts : List Owned) → held n ts ≡ Some x
    → AllByRecursion (λ z. rank_cmp x.sheet z ≡ Less) (sheets_of ts) → ⊥
not_before_all x n ts is all =
    let before = of_held (λ z. rank_cmp x.sheet z ≡ Less) n ts x all is in
    let tied : rank_cmp x.sheet x.sheet ≡ Equal = tied_itself rank_total x.sheet in
    cc

own_name : (x : Owned) → bears_name x.sheet.name x ≡ true
own_name x = (bytes_eq-Decides x.sheet.name x.sheet.name).1 refl

one_head : (x y : Owned) (xs ys : List Owned) → IsStrictlySortedBy rank_cmp (sheets_of (x ∷ xs))
    → IsStrictlySortedBy rank_cmp (sheets_of (y ∷ ys))
    → ((n : List ℕ) → held n (x ∷ xs) ≡ held n (y ∷ ys)) → x ≡ y
unfolding IsStrictlySortedBy
one_head x y xs ys a b same =
    let here : held x.sheet.name (x ∷ xs) ≡ Some x = rw (own_name x) refl in
    let there : held y.sheet.name (y ∷ ys) ≡ Some y = rw (own_name y) refl in
    let first : held x.sheet.name (y ∷ ys) ≡ Some x = sym (same x.sheet.name) ∙ here in
    let second : held y.sheet.name (x ∷ xs) ≡ Some y = same y.sheet.name ∙ there in
    elim (cases_Bool (bears_name x.sheet.name y)) [
      | inl named ↦ let found : Some y ≡ Some x = (rw named at first) in cc
      | inr away ↦ elim (cases_Bool (is_lt (rank_cmp x.sheet y.sheet))) [
        | inl lt ↦
            let before = less (rank_cmp x.sheet y.sheet) lt in
            absurd (not_before_all x x.sheet.name (y ∷ ys) first
            (before, beyond x.sheet y.sheet (sheets_of ys) before b.0))
        | inr ge ↦
            let before = below y.sheet x.sheet ge away in
            absurd (not_before_all y y.sheet.name (x ∷ xs) second
            (before, beyond y.sheet x.sheet (sheets_of xs) before a.0))
      ]
    ]

one_tail : (x : Owned) (xs ys : List Owned) → AllByRecursion (λ z. same_name x.sheet z ≡ false)
    (sheets_of xs) → AllByRecursion (λ z. same_name x.sheet z ≡ false) (sheets_of ys)
    → ((n : List ℕ) → held n (x ∷ xs) ≡ held n (x ∷ ys)) → (n : List ℕ) → held n xs ≡ held n ys
one_tail x xs ys a b same n = elim (cases_Bool (bears_name n x)) [
  | inl here ↦ none_held n x xs here a ∙ sym (none_held n x ys here b)
  | inr away ↦ (rw away at (same n))
]

one : (xs ys : List Owned) → IsStrictlySortedBy rank_cmp (sheets_of xs) → IsStrictlySortedBy rank_cmp
    (sheets_of ys) → AreDistinct same_name (sheets_of xs) → AreDistinct same_name (sheets_of ys)
    → ((n : List ℕ) → held n xs ≡ held n ys) → xs ≡ ys
unfolding IsStrictlySortedBy
one [] [] a b c d same = refl
one [] (y ∷ ys) a b c d same = let found : None ≡ Some y = same y.sheet.name
    ∙ rw (own_name y) refl in cc
one (x ∷ xs) [] a b c d same = let found : Some x ≡ None =
    (rw (own_name x) at (same x.sheet.name)) in cc
one (x ∷ xs) (y ∷ ys) a b c d same =
    let heads = one_head x y xs ys a b same in
    let apart : AllByRecursion (λ z. same_name x.sheet z ≡ false) (sheets_of ys) =
    subst (λ (o : Owned). AllByRecursion (λ z. same_name o.sheet z ≡ false) (sheets_of ys))
    (sym heads) d.0 in
    let rest : (n : List ℕ) → held n (x ∷ xs) ≡ held n (x ∷ ys) = λ n. same n
    ∙ ap (λ o. held n (o ∷ ys)) (sym heads) in
    let tails = one xs ys a.1 b.1 c.1 d.1 (one_tail x xs ys c.0 apart rest) in
    λ i. heads i ∷ tails i

pub reached : (first second : List Owned) → IsRoster first → IsRoster second
    → ((n : List ℕ) → held n first ≡ held n second) → first ≡ second
reached first second a b same = one first second a.ranked b.ranked a.distinct b.distinct same

pub held-without : (n : List ℕ) (ts : List Owned) → held n (without_name n ts) ≡ None
held-without n [] = refl
held-without n (x ∷ ts) = elim (cases_Bool (bears_name n x)) [
  | inl here ↦ rw here (held-without n ts)
  | inr away ↦ rw (away, away) (held-without n ts)
]

kept : (n m : List ℕ) (ts : List Owned)
    → ((o : Owned) → bears_name m o ≡ true → bears_name n o ≡ false)
    → held m (without_name n ts) ≡ held m ts
kept n m [] apart = refl
kept n m (x ∷ ts) apart = elim (cases_Bool (bears_name n x)) [
  | inl here ↦ elim (cases_Bool (bears_name m x)) [
    | inl both ↦ absurd (both_ways (bears_name n x) (apart x both) here)
    | inr other ↦ rw (here, other) (kept n m ts apart)
  ]
  | inr away ↦ elim (cases_Bool (bears_name m x)) [
    | inl found ↦ rw (away, found) refl
    | inr other ↦ rw (away, other) (kept n m ts apart)
  ]
]

beside : (m : List ℕ) (o : Owned) (ts : List Owned) → bears_name m o ≡ false
    → held m (placed o ts) ≡ held m ts
beside m o [] other = rw other refl
beside m o (x ∷ ts) other = elim (cases_Bool (is_lt (rank_cmp x.sheet o.sheet))) [
  | inl lt ↦ elim (cases_Bool (bears_name m x)) [
    | inl found ↦ rw (lt, found) refl
    | inr away ↦ rw (lt, away) (beside m o ts other)
  ]
  | inr ge ↦ rw (ge, other) refl
]

there : (n : List ℕ) (o : Owned) (ts : List Owned) → bears_name n o ≡ true → held n ts ≡ None
    → held n (placed o ts) ≡ Some o
there n o [] named none = rw named refl
there n o (x ∷ ts) named none = elim (cases_Bool (is_lt (rank_cmp x.sheet o.sheet))) [
  | inl lt ↦ elim (cases_Bool (bears_name n x)) [
    | inl found ↦ let some : Some x ≡ None = (rw found at none) in absurd (cc)
    | inr away ↦ rw (lt, away) (there n o ts named (rw away at none))
  ]
  | inr ge ↦ rw (ge, named) refl
]

names_apart : (n m : List ℕ) → (n ≡ m → ⊥) → (o : Owned) → bears_name m o ≡ true
    → bears_name n o ≡ false
names_apart n m ne o is = elim (cases_Bool (bears_name n o)) [
  | inl both ↦ absurd (ne (sym ((bytes_eq-Decides o.sheet.name n).0 both)
      ∙ (bytes_eq-Decides o.sheet.name m).0 is))
  | inr away ↦ away
]

pub held-without_other : (n m : List ℕ) (ts : List Owned) → (n ≡ m → ⊥)
    → held m (without_name n ts) ≡ held m ts
held-without_other n m ts ne = kept n m ts (names_apart n m ne)

pub held-with : (n : List ℕ) (o : Owned) (ts : List Owned) → o.sheet.name ≡ n
    → held n (with_task n o ts) ≡ Some o
held-with n o ts named =
    there n o (without_name n ts) ((bytes_eq-Decides o.sheet.name n).1 named) (held-without n ts)

pub held-with_other : (n m : List ℕ) (o : Owned) (ts : List Owned) → o.sheet.name ≡ n → (n ≡ m → ⊥)
    → held m (with_task n o ts) ≡ held m ts
held-with_other n m o ts named ne =
    let away : bears_name m o ≡ false =
    names_apart m n (λ e. ne (sym e)) o ((bytes_eq-Decides o.sheet.name n).1 named) in
    beside m o (without_name n ts) away ∙ held-without_other n m ts ne
