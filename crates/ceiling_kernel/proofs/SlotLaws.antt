-- What the best of the slots is.
use Rattle.std.proofs.Common.{ℕ, zero, suc, ◌<◌, ◌≤◌, ◌≡◌, ◌⊎◌, inl, inr, refl, sym, ap, ◌∙◌, subst}
use Rattle.std.proofs.Common.{arith, List, [], ◌∷◌, Option, Some, None, Bool, true, false, ◌||◌}
use Rattle.std.proofs.Common.{◌&&◌, ◌==◌, nat_lt, slice_index_or}
use Rattle.std.proofs.lemmas.Option.{none-some}
use Rattle.std.proofs.lemmas.Bool.{cases_Bool, cases_eq, cases_lt, true≢false, lt-ltb, le-ltb}
use Rattle.std.proofs.lemmas.Bool.{ltb-true, eq-eqb, ne_eqb}
use Rattle.ceiling_kernel.specs.declared.run.Pending.{Pending}
use Rattle.ceiling_kernel.specs.States.{better_pending, best_slot}

-- pending job q doesn't go before p
abbrev pub NotFirst : Pending → Pending → Type 0
NotFirst q p = (q.active < p.active) ⊎ ((q.active ≡ p.active) × (p.level ≤ q.level))

not_first_same : (q p : Pending) → q ≡ p → NotFirst q p
not_first_same q p e = let a : q.active ≡ p.active = ap (λ x. x.active) e in
    let l : q.level ≡ p.level = ap (λ x. x.level) e in inr (a, omega arith)

not_first_trans : (a b c : Pending) → NotFirst a b → NotFirst b c → NotFirst a c
not_first_trans a b c x y =
    elim x [
      | inl lt ↦ elim y [ inl lt' ↦ inl (omega arith) | inr eq' ↦ inl (omega (arith, eq'.0)) ]
      | inr eq ↦ elim y [
        | inl lt' ↦ inl (omega (arith, eq.0))
        | inr eq' ↦ inr (eq.0 ∙ eq'.0, omega (arith, eq.1, eq'.1))
      ]
    ]

abbrev yields : Pending → Pending → Bool
yields q p = nat_lt q.active p.active || ((q.active == p.active) && nat_lt p.level q.level)

yields_true : (q p : Pending) → yields q p ≡ true → NotFirst q p
yields_true q p h =
    elim (cases_lt q.active p.active) [
      | inl lt ↦ inl lt
      | inr ge ↦
          let x : nat_lt q.active p.active ≡ false = le-ltb q.active p.active ge in
          elim (cases_eq q.active p.active) [
            | inl e ↦
                let z : nat_lt p.level q.level ≡ true = rw (x, eq-eqb q.active p.active e) at h in
                let lt : p.level < q.level = ltb-true p.level q.level z in
                inr (e, omega arith)
            | inr ne ↦
                let z : false ≡ true = rw (x, ne_eqb q.active p.active ne) at h in
                absurd (true≢false (sym z))
          ]
    ]

yields_false : (q p : Pending) → yields q p ≡ false → NotFirst p q
yields_false q p h =
    elim (cases_lt p.active q.active) [
      | inl lt ↦ inl lt
      | inr ge ↦
          elim (cases_eq q.active p.active) [
            | inr ne ↦
                let x : nat_lt q.active p.active ≡ true = lt-ltb q.active p.active (omega arith) in
                let z : true ≡ false = rw x at h in
                absurd (true≢false z)
            | inl e ↦
                elim (cases_lt p.level q.level) [
                  | inl lower ↦
                      let x = le-ltb q.active p.active (omega arith) in
                      let z : true ≡ false = rw (
                        x,
                        eq-eqb q.active p.active e,
                        lt-ltb p.level
                            q.level lower,
                      ) at h in
                      absurd (true≢false z)
                  | inr not_lower ↦ inr (sym e, not_lower)
                ]
          ]
    ]

-- the better of two
pub record IsBetter (found : Option Pending) (j b : Pending) : Type 0 where
  pub one_of : (b ≡ j) ⊎ (found ≡ Some b)
  pub mine : NotFirst j b
  pub other : (k : Pending) → found ≡ Some k → NotFirst k b

better_is : (found : Option Pending) (j : Pending) → IsBetter found j (better_pending found j)
better_is None j =
    record { one_of = inl refl; mine = not_first_same j j refl; other = λ k e. absurd (cc) }
better_is (Some q) j =
    elim (cases_Bool (yields q j)) [
      | inl way ↦ rw way (record {
        one_of = inl refl;
        mine = not_first_same j j refl;
        other =
            λ k e. (let same : q ≡ k = cc in subst (λ x. NotFirst x j) same (yields_true q j way));
      })
      | inr holds ↦ rw holds (record {
        one_of = inr refl;
        mine = yields_false q j holds;
        other = λ k e. (let same : k ≡ q = cc in not_first_same k q same);
      })
    ]

pub record IsBestSlot (slots : List (Option Pending)) (found : Option Pending)
    (p : Pending) : Type 0 where
  pub from : (found ≡ Some p) ⊎ ((i : ℕ) × (slice_index_or slots i None ≡ Some p))
  pub first : (i : ℕ) (k : Pending) → slice_index_or slots i None ≡ Some k → NotFirst k p
  pub other : (k : Pending) → found ≡ Some k → NotFirst k p

pub slot_some : (slots : List (Option Pending)) (found : Option Pending) (p : Pending)
    → best_slot slots found ≡ Some p → IsBestSlot slots found p
slot_some [] found p e = record {
  from = inl e;
  first = λ i k h. absurd (cc);
  other = λ k h. (let same : k ≡ p = cc in not_first_same k p same);
}
slot_some (None ∷ slots) found p e =
    let ih : IsBestSlot slots found p = slot_some slots found p e in
    record {
      from = elim ih.from [ inl f ↦ inl f | inr s ↦ inr (suc s.0, s.1) ];
      first = after_none ih.first;
      other = ih.other;
    }
  where
    after_none : ((i : ℕ) (k : Pending) → slice_index_or slots i None ≡ Some k → NotFirst k p)
        → (i : ℕ) (k : Pending) → slice_index_or (None ∷ slots) i None ≡ Some k → NotFirst k p
    after_none h zero k e = absurd (cc)
    after_none h (suc i) k e = h i k e
slot_some (Some j ∷ slots) found p e =
    let b : IsBetter found j (better_pending found j) = better_is found j in
    let ih = slot_some slots (Some (better_pending found j)) p e in
    let up : NotFirst (better_pending found j) p = ih.other (better_pending found j) refl in
    record {
      from = elim ih.from [
        | inl f ↦
            let same : better_pending found j ≡ p = cc in
            elim b.one_of [
              | inl mine ↦ inr (0, ap Some (sym mine ∙ same))
              | inr was ↦ inl (was ∙ ap Some same)
            ]
        | inr s ↦ inr (suc s.0, s.1)
      ];
      first = after_some (not_first_trans j (better_pending found j) p b.mine up) ih.first;
      other = λ k h. not_first_trans k (better_pending found j) p (b.other k h) up;
    }
  where
    after_some : NotFirst j p
        → ((i : ℕ) (k : Pending) → slice_index_or slots i None ≡ Some k → NotFirst k p)
        → (i : ℕ) (k : Pending) → slice_index_or (Some j ∷ slots) i None ≡ Some k → NotFirst k p
    after_some here h zero k e = let same : j ≡ k = cc in subst (λ x. NotFirst x p) same here
    after_some here h (suc i) k e = h i k e

pub slot_none : (slots : List (Option Pending)) (found : Option Pending) → best_slot slots found
    ≡ None → (found ≡ None) × ((i : ℕ) (k : Pending) → slice_index_or slots i None ≡ Some k → ⊥)
slot_none [] found e = (e, λ i k h. (cc))
slot_none (None ∷ slots) found e =
    let ih = slot_none slots found e in
    (ih.0, after ih.1)
  where
    after : ((i : ℕ) (k : Pending) → slice_index_or slots i None ≡ Some k → ⊥)
        → (i : ℕ) (k : Pending) → slice_index_or (None ∷ slots) i None ≡ Some k → ⊥
    after h zero k e = cc
    after h (suc i) k e = h i k e
slot_none (Some j ∷ slots) found e =
    absurd (none-some (better_pending found j) (sym (slot_none slots (Some (better_pending found j))
    e).0))
