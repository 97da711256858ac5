-- Lists of threads whose own levels rise from head to tail.
use Rattle.std.proofs.Common.{ℕ, ◌<◌, ◌≡◌, ◌≢◌, ◌⊎◌, inl, inr, refl, sym, ap, ◌∙◌, subst}
use Rattle.std.proofs.Common.{◌==◌, List, [], ◌∷◌, ◌++◌}
use Rattle.std.proofs.lemmas.Bool.{cases_eq, cases_Bool, eq-eqb, ne_eqb}
use Rattle.posix_lists.specs.ThreadLists.{with_head, with_tail, with_list}

-- ---- who stands in a list
abbrev pub In : ℕ → List ℕ → Type 0
In k [] = ⊥
In k (x ∷ xs) = (x ≡ k) ⊎ In k xs

in_longer : (xs : List ℕ) (j k : ℕ) → In k xs → In k (xs ++ j ∷ [])
in_longer [] j k h = absurd h
in_longer (x ∷ xs) j k h = elim h [ inl e ↦ inl e | inr later ↦ inr (in_longer xs j k later) ]

in_last : (xs : List ℕ) (j : ℕ) → In j (xs ++ j ∷ [])
in_last [] j = inl refl
in_last (x ∷ xs) j = inr (in_last xs j)

from_longer : (xs : List ℕ) (j k : ℕ) → In k (xs ++ j ∷ []) → In k xs ⊎ (j ≡ k)
from_longer [] j k h = elim h [ inl e ↦ inr e | inr never ↦ absurd never ]
from_longer (x ∷ xs) j k h =
    elim h [
      | inl e ↦ inl (inl e)
      | inr later ↦ elim (from_longer xs j k later) [ inl was ↦ inl (inr was) | inr e ↦ inr e ]
    ]

pub empty_from : (xs : List ℕ) → ((k : ℕ) → In k xs → ⊥) → xs ≡ []
empty_from [] none = refl
empty_from (x ∷ xs) none = absurd (none x (inl refl))

pub none_in : (xs : List ℕ) (k : ℕ) → xs ≡ [] → In k xs → ⊥
none_in xs k e h = subst (In k) e h

-- ---- rising levels
module _ (level : ℕ → ℕ) where
  -- x's level is below that of all in a list
  abbrev pub IsBelow : ℕ → List ℕ → Type 0
  IsBelow x xs = (k : ℕ) → In k xs → level x < level k

  abbrev pub Rising : List ℕ → Type 0
  Rising [] = Unit {0}
  Rising (x ∷ xs) = IsBelow x xs × Rising xs

  pub rising_longer : (xs : List ℕ) (j : ℕ) → Rising xs → ((k : ℕ) → In k xs → level k < level j)
      → Rising (xs ++ j ∷ [])
  rising_longer [] j h below = (λ k never. absurd never, tt)
  rising_longer (x ∷ xs) j h below = (
    λ k at. elim (from_longer xs j k at) [
      | inl was ↦ h.0 k was
      | inr e ↦
          subst (λ y. level x < level y) e (below x (inl refl))
    ],
    rising_longer xs j h.1 (λ k at. below k (inr at)),
  )

-- ---- a thread that comes to the list for priority a, or leaves it
module _ (list : ℕ → List ℕ) (a j : ℕ) where
  pub head_here : (q : ℕ) → a ≡ q → with_head list a j q ≡ j ∷ list q
  head_here q e = rw (eq-eqb a q e)

  pub head_else : (q : ℕ) → a ≢ q → with_head list a j q ≡ list q
  head_else q ne = rw (ne_eqb a q ne)

  pub tail_here : (q : ℕ) → a ≡ q → with_tail list a j q ≡ list q ++ j ∷ []
  tail_here q e = rw (eq-eqb a q e)

  pub tail_else : (q : ℕ) → a ≢ q → with_tail list a j q ≡ list q
  tail_else q ne = rw (ne_eqb a q ne)

  pub from_head : (q k : ℕ) → In k (with_head list a j q) → In k (list q) ⊎ ((a ≡ q) × (j ≡ k))
  from_head q k h = elim (cases_eq a q) [
    | inl e ↦ elim (subst (In k) (head_here q e) h) [ inl own ↦ inr (e, own) | inr was ↦ inl was ]
    | inr ne ↦ inl (subst (In k) (head_else q ne) h)
  ]

  pub to_head : (q k : ℕ) → In k (list q) → In k (with_head list a j q)
  to_head q k h = elim (cases_eq a q) [
    | inl e ↦ subst (In k) (sym (head_here q e)) (inr h)
    | inr ne ↦ subst (In k) (sym (head_else q ne)) h
  ]

  pub own_head : In j (with_head list a j a)
  own_head = subst (In j) (sym (head_here a refl)) (inl refl)

  pub from_tail : (q k : ℕ) → In k (with_tail list a j q) → In k (list q) ⊎ ((a ≡ q) × (j ≡ k))
  from_tail q k h = elim (cases_eq a q) [
    | inl e ↦ elim (from_longer (list q) j k (subst (In k) (tail_here q e) h)) [
      | inl was ↦ inl was
      | inr own ↦ inr (e, own)
    ]
    | inr ne ↦ inl (subst (In k) (tail_else q ne) h)
  ]

  pub to_tail : (q k : ℕ) → In k (list q) → In k (with_tail list a j q)
  to_tail q k h = elim (cases_eq a q) [
    | inl e ↦ subst (In k) (sym (tail_here q e)) (in_longer (list q) j k h)
    | inr ne ↦ subst (In k) (sym (tail_else q ne)) h
  ]

  pub own_tail : In j (with_tail list a j a)
  own_tail = subst (In j) (sym (tail_here a refl)) (in_last (list a) j)

  -- in an empty list the head is the tail
  pub head_is_tail : list a ≡ [] → (q : ℕ) → with_head list a j q ≡ with_tail list a j q
  head_is_tail none q = elim (cases_eq a q) [
    | inl e ↦
        let here : list q ≡ [] = sym (ap list e) ∙ none in
        head_here q e
        ∙ (ap (λ xs. j ∷ xs) here ∙ (sym (ap (λ xs. xs ++ j ∷ []) here) ∙ sym (tail_here q e)))
    | inr ne ↦ head_else q ne ∙ sym (tail_else q ne)
  ]

  -- the head of a list, put back there
  pub head_back : (rest : List ℕ) → list a ≡ j ∷ rest → (q : ℕ)
      → list q ≡ with_head (with_list list a rest) a j q
  head_back rest head q = elim (cases_eq a q) [
    | inl e ↦ rw (eq-eqb a q e) (sym (ap list e) ∙ head)
    | inr ne ↦ rw (ne_eqb a q ne)
  ]

-- one that comes to a tail, and one that stands before a head
pub tail_behind_head : (list : ℕ → List ℕ) (a j b p q : ℕ)
    → with_tail (with_head list b p) a j q ≡ with_head (with_tail list a j) b p q
tail_behind_head list a j b p q = elim (cases_Bool (a == q)) [
  | inl ta ↦ elim (cases_Bool (b == q)) [ inl tb ↦ rw (ta, tb) | inr fb ↦ rw (ta, fb) ]
  | inr fa ↦ elim (cases_Bool (b == q)) [ inl tb ↦ rw (fa, tb) | inr fb ↦ rw (fa, fb) ]
]
