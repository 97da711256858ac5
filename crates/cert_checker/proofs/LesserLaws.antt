-- The failures of a level: by rank, of the tasks that are left below the chosen one, and of no others.
use Rattle.std.proofs.Common.{◌≡◌, ℕ, zero, suc, ◌+◌, ◌<◌, ◌≤◌, Bool, true, false, cond, ◌&&◌, ◌==◌}
use Rattle.std.proofs.Common.{not, List, [], ◌∷◌, ◌++◌, Option, Some, None, refl, sym, ◌∙◌, ap}
use Rattle.std.proofs.Common.{arith, inl, inr}
use Rattle.std.specs.Bool.{Decides}
use Rattle.std.specs.Option.{option_or}
use Rattle.std.proofs.Math.Bool.{or-false}
use Rattle.std.proofs.lemmas.List.Folds.{list_any-append}
use Rattle.std.proofs.lemmas.Bool.{cases_Bool, cases_eq, or_cases, both_ways, ne_eqb, eqb-true}
use Rattle.std.proofs.lemmas.Bool.Decides.{Decides-and, Decides-ltb}
use Rattle.task_sheet.specs.Indexes.{Indexes, among, listed_below}
use Rattle.task_sheet.proofs.IndexLaws.{listed-has}
use Rattle.cert_checker.specs.CertificateFaults.{are_lesser, first_unnamed}
use Rattle.cert_checker.proofs.Tests.{at_most, as_said}

-- ---- rising lists
module _ (L : Indexes) where
  head : (from n k : ℕ) (ks : List ℕ) → Decides (are_lesser L from n (k ∷ ks))
      ((((from ≤ k) × (k < n)) × (L k ≡ true)) × (are_lesser L (k + 1) n ks ≡ true))
  head from n k ks = Decides-and _ _ (Decides-and _ _ (Decides-and _ _ (at_most from k)
      (Decides-ltb k n)) (as_said (L k))) (as_said (are_lesser L (k + 1) n ks))

  -- with one more index that may stand in it
  lesser-wider : (from n : ℕ) (ks : List ℕ) → are_lesser L from n ks ≡ true
      → are_lesser L from (suc n) ks ≡ true
  lesser-wider from n [] h = refl
  lesser-wider from n (k ∷ ks) h =
      let p = (head from n k ks).0 h in
      (head from (suc n) k ks).1
      (((p.0.0.0, omega (arith, p.0.0.1)), p.0.1), lesser-wider (k + 1) n ks p.1)

  -- with one more index behind the others
  lesser-push : (from n : ℕ) (ks : List ℕ) → from ≤ n → L n ≡ true → are_lesser L from n ks ≡ true
      → are_lesser L from (suc n) (ks ++ n ∷ []) ≡ true
  lesser-push from n [] le member h =
      (head from (suc n) n []).1 (((le, omega arith), member), refl)
  lesser-push from n (k ∷ ks) le member h =
      let p = (head from n k ks).0 h in
      (head from (suc n) k (ks ++ n ∷ [])).1 (
        ((p.0.0.0, omega (arith, p.0.0.1)), p.0.1),
        lesser-push (k + 1) n ks (omega (arith, p.0.0.1)) member p.1,
      )

  -- an index that isn't in L does not stand in it
  lesser-narrower : (from n : ℕ) (ks : List ℕ) → L n ≡ false → are_lesser L from (suc n) ks ≡ true
      → are_lesser L from n ks ≡ true
  lesser-narrower from n [] out h = refl
  lesser-narrower from n (k ∷ ks) out h =
      let p = (head from (suc n) k ks).0 h in
      let below : k < n = elim (cases_eq k n) [
        | inl e ↦ absurd (both_ways (L n) out (ap L (sym e) ∙ p.0.1))
        | inr ne ↦ omega (arith, p.0.0.1)
      ] in
      (head from n k ks).1 (((p.0.0.0, below), p.0.1), lesser-narrower (k + 1) n ks out p.1)

  lesser-nil : (n : ℕ) (ks : List ℕ) → are_lesser L n n ks ≡ true → ks ≡ []
  lesser-nil n [] h = refl
  lesser-nil n (k ∷ ks) h = let p = (head n n k ks).0 h in absurd (omega (arith, p.0.0.0, p.0.0.1))

  -- the greatest index stands last
  lesser-split : (from n : ℕ) (ks : List ℕ) → are_lesser L from (suc n) ks ≡ true
      → among ks n ≡ true
      → (front : List ℕ) × (ks ≡ front ++ n ∷ []) × (are_lesser L from n front ≡ true)
  lesser-split from n [] h is = absurd (both_ways false refl is)
  lesser-split from n (k ∷ ks) h is =
      let p = (head from (suc n) k ks).0 h in
      elim (cases_eq k n) [
        | inl e ↦
            let next : k + 1 ≡ suc n = omega (arith, e) in
            ([], rw (e, lesser-nil (suc n) ks (rw next at p.1)) refl, refl)
        | inr ne ↦
            let later : among ks n ≡ true = elim (or_cases (k == n) (among ks n) is) [
              | inl same ↦ absurd (ne (eqb-true k n same))
              | inr later ↦ later
            ] in
            let rest = lesser-split (k + 1) n ks p.1 later in (
              k ∷ rest.0,
              ap (λ (xs : List ℕ). k ∷ xs) rest.1,
              (head from n k rest.0).1 (((p.0.0.0, omega (arith, p.0.0.1)), p.0.1), rest.2),
            )
      ]

  lesser-listed : (n : ℕ) → are_lesser L 0 n (listed_below n L) ≡ true
  lesser-listed zero = refl
  lesser-listed (suc n) = elim (cases_Bool (L n)) [
    | inl member ↦ rw member
        (lesser-push 0 n (listed_below n L) (omega arith) member (lesser-listed n))
    | inr out ↦ rw out (lesser-wider 0 n (listed_below n L) (lesser-listed n))
  ]

-- ---- what is missing
pub none-or : {A : Type 0} (o p : Option A) → option_or o p ≡ None → (o ≡ None) × (p ≡ None)
none-or None p e = (refl, e)
none-or (Some x) p e = absurd cc

test-none : (member named : Bool) (n : ℕ) → cond (member && not named) (Some n) None ≡ None
    → member ≡ true → named ≡ true
test-none true true n e m = refl
test-none true false n e m = absurd cc
test-none false named n e m = absurd cc

test-full : (member named : Bool) (n : ℕ) → (member ≡ true → named ≡ true)
    → cond (member && not named) (Some n) None ≡ None
test-full true true n h = refl
test-full true false n h = absurd (both_ways false refl (h refl))
test-full false named n h = refl

-- what stands last doesn't matter below it
unnamed-front : (L : Indexes) (front : List ℕ) (n m : ℕ) → m ≤ n
    → first_unnamed L (front ++ n ∷ []) m ≡ first_unnamed L front m
unnamed-front L front n zero le = refl
unnamed-front L front n (suc m) le =
    let other : (n == m) ≡ false = ne_eqb n m (λ e. omega arith) in
    let same : among (front ++ n ∷ []) m ≡ among front m =
    list_any-append (λ x. x == m) front (n ∷ []) ∙ rw (other, or-false) refl in
    rw (unnamed-front L front n m (omega arith), same) refl

missing-none : (L : Indexes) (named : List ℕ) (n : ℕ)
    → ((j : ℕ) → j < n → L j ≡ true → among named j ≡ true) → first_unnamed L named n ≡ None
missing-none L named zero h = refl
missing-none L named (suc n) h =
    rw (missing-none L named n (λ j lt member. h j (omega arith) member))
    (test-full (L n) (among named n) n (h n (omega arith)))

-- ---- both together
pub lesser-sound : (L : Indexes) (n : ℕ) (ks : List ℕ) → are_lesser L 0 n ks ≡ true
    → first_unnamed L ks n ≡ None → ks ≡ listed_below n L
lesser-sound L zero ks h none = lesser-nil L 0 ks h
lesser-sound L (suc n) ks h none =
    let both = none-or (first_unnamed L ks n) (cond (L n && not (among ks n)) (Some n) None) none in
    elim (cases_Bool (L n)) [
      | inl member ↦
          let split =
          lesser-split L 0 n ks h (test-none (L n) (among ks n) n both.1 member) in
          let before = sym (unnamed-front L split.0 n n (omega arith))
          ∙ rw split.1 at both.0 in
          rw (member, split.1, lesser-sound L n split.0 split.2 before) refl
      | inr out ↦ rw out (lesser-sound L n ks (lesser-narrower L 0 n ks out h) both.0)
    ]

pub lesser-complete : (L : Indexes) (n : ℕ) (ks : List ℕ) → ks ≡ listed_below n L
    → (are_lesser L 0 n ks ≡ true) × (first_unnamed L ks n ≡ None)
lesser-complete L n ks e =
    rw e (lesser-listed L n, missing-none L (listed_below n L) n (listed-has n L))
