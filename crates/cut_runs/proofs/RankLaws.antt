-- Where what a filter keeps stands in the list that it leaves.
use Rattle.std.proofs.Common.{ℕ, zero, suc, ◌+◌, ◌<◌, ◌≤◌, ◌≡◌, inl, inr, refl, sym, ap, ◌∙◌, subst, arith}
use Rattle.std.proofs.Common.{◌-◌, append_assoc, Bool, true, false, cond, List, [], ◌∷◌, ◌++◌, length, get_or, take, drop}
use Rattle.std.specs.List.{filter}
use Rattle.std.proofs.lemmas.Bool.{cases_Bool, cases_eq, cases_lt}
use Rattle.std.proofs.lemmas.List.{take_all, take-append-drop, get_or_at}
use Rattle.std.proofs.lemmas.List.Elements.{filter-append, filter_more}
use Rattle.std.proofs.lemmas.List.Filters.{length-filter_more}

module _ {X : Type 0} (p : X → Bool) (xs : List X) (d : X) where
  -- the element at a place is kept
  abbrev pub keep : ℕ → Bool
  keep n = p (get_or xs n d)

  -- how many of the elements before a place are kept: where the one at it then stands
  abbrev pub rank : ℕ → ℕ
  rank n = length (filter p (take n xs))

  step : (n : ℕ) → n < length xs → rank (suc n) ≡ rank n + cond (keep n) 1 0
  step n lt = (let one : suc n ≡ n + 1 = omega arith in
      ap (λ k. length (filter p (take k xs))) one ∙ length-filter_more p xs n d lt)

  pub rank_kept : (n : ℕ) → n < length xs → keep n ≡ true → rank (suc n) ≡ rank n + 1
  rank_kept n lt k = step n lt ∙ rw k

  pub rank_left : (n : ℕ) → n < length xs → keep n ≡ false → rank (suc n) ≡ rank n
  rank_left n lt k = (let e : rank (suc n) ≡ rank n + 0 = step n lt ∙ rw k in omega arith)

  pub rank_all : rank (length xs) ≡ length (filter p xs)
  rank_all = ap (λ l. length (filter p l)) (take_all (length xs) xs (omega arith))

  pub rank_start : rank 0 ≡ 0
  rank_start = refl

  rises : (m e : ℕ) → m + e ≤ length xs → rank m ≤ rank (m + e)
  rises m zero le =
      let at : m + 0 ≡ m = omega arith in
      let same : rank (m + 0) ≡ rank m = ap rank at in
      omega (arith, same)
  rises m (suc e) le =
      let before : rank m ≤ rank (m + e) = rises m e (omega arith) in
      let at : m + suc e ≡ suc (m + e) = omega arith in
      let same : rank (m + suc e) ≡ rank (suc (m + e)) = ap rank at in
      elim (cases_Bool (keep (m + e))) [
        | inl k ↦
            let n : rank (suc (m + e)) ≡ rank (m + e) + 1 = rank_kept (m + e) (omega arith) k in
            omega (arith, before, same, n)
        | inr k ↦
            let n : rank (suc (m + e)) ≡ rank (m + e) = rank_left (m + e) (omega arith) k in
            omega (arith, before, same, n)
      ]

  pub rank_le : (m n : ℕ) → m ≤ n → n ≤ length xs → rank m ≤ rank n
  rank_le m n le within =
      let to : m + (n - m) ≡ n = omega arith in
      subst (λ k. rank m ≤ rank k) to (rises m (n - m) (omega arith))

  pub rank_most : (n : ℕ) → n ≤ length xs → rank n ≤ n
  rank_most zero le = omega arith
  rank_most (suc n) le =
      let before : rank n ≤ n = rank_most n (omega arith) in
      elim (cases_Bool (keep n)) [
        | inl k ↦ let e : rank (suc n) ≡ rank n + 1 = rank_kept n (omega arith) k in omega arith
        | inr k ↦ let e : rank (suc n) ≡ rank n = rank_left n (omega arith) k in omega arith
      ]

  pub rank_lt : (m n : ℕ) → m < n → n ≤ length xs → keep m ≡ true → rank m < rank n
  rank_lt m n lt within k =
      let one : rank (suc m) ≡ rank m + 1 = rank_kept m (omega arith) k in
      let rest : rank (suc m) ≤ rank n = rank_le (suc m) n (omega arith) within in
      omega arith

  -- no two that are kept stand at one place
  pub rank_differs : (m n : ℕ) → m < length xs → n < length xs → keep m ≡ true → keep n ≡ true
      → rank m ≡ rank n → m ≡ n
  rank_differs m n lm ln km kn e =
      elim (cases_lt m n) [
        | inl less ↦ let r : rank m < rank n = rank_lt m n less (omega arith) km in absurd (omega arith)
        | inr more ↦ elim (cases_eq m n) [
          | inl same ↦ same
          | inr other ↦ let r : rank n < rank m = rank_lt n m (omega arith) (omega arith) kn in absurd (omega arith)
        ]
      ]

  whole : (n : ℕ) → n < length xs → keep n ≡ true
      → filter p xs ≡ (filter p (take n xs) ++ get_or xs n d ∷ []) ++ filter p (drop (suc n) xs)
  whole n lt k =
      let one : suc n ≡ n + 1 = omega arith in
      let front : filter p (take (suc n) xs) ≡ filter p (take n xs) ++ get_or xs n d ∷ [] =
      ap (λ k. filter p (take k xs)) one ∙ (filter_more p xs n d lt ∙ rw k) in
      ap (filter p) (sym (take-append-drop (suc n) xs)) ∙
      (filter-append p (take (suc n) xs) (drop (suc n) xs) ∙
      ap (λ l. l ++ filter p (drop (suc n) xs)) front)

  -- the one at a place stands there
  pub kept_at : (n : ℕ) → n < length xs → keep n ≡ true → get_or (filter p xs) (rank n) d ≡ get_or xs n d
  kept_at n lt k =
      ap (λ l. get_or l (rank n) d) (whole n lt k
      ∙ append_assoc (filter p (take n xs)) (get_or xs n d ∷ []) (filter p (drop (suc n) xs))) ∙
      get_or_at (filter p (take n xs)) (get_or xs n d) (filter p (drop (suc n) xs)) d (rank n) refl

  -- a place of one that is kept, by where it stands
  pub record IsFrom (n m : ℕ) : Type 0 where
    pub place : ℕ
    pub below : place < n
    pub kept : keep place ≡ true
    pub stands : rank place ≡ m

  pub comes_from : (n m : ℕ) → n ≤ length xs → m < rank n → IsFrom n m
  comes_from zero m within lt = absurd (omega arith)
  comes_from (suc n) m within lt =
      elim (cases_lt m (rank n)) [
        | inl less ↦
            let f : IsFrom n m = comes_from n m (omega arith) less in
            record { place = f.place; below = omega (arith, f.below); kept = f.kept; stands = f.stands }
        | inr more ↦ elim (cases_Bool (keep n)) [
          | inl k ↦
              let s : rank (suc n) ≡ rank n + 1 = rank_kept n (omega arith) k in
              record { place = n; below = omega arith; kept = k; stands = omega arith }
          | inr k ↦
              let s : rank (suc n) ≡ rank n = rank_left n (omega arith) k in
              absurd (omega arith)
        ]
      ]
